use Rattle.std.proofs.Common.{ap, sym, true≢false}
use Rattle.vc_shared.proofs.ShowingLemmas.{differ, id_decides, same_texts, told_decides}
use Rattle.vc_shared.specs.Opening.{OpeningText, opening_text}
use Rattle.vc_shared.proofs.opening.Opening.is_same.Goals as goal

pub returns-then-ne : goal.returns-then-ne
returns-then-ne c = (
  λ never. absurd (true≢false (sym never)),
  λ same. absurd ((differ told_decides c.args.self.now.refs.items c.args.other.now.refs.items c.ne.result c.ne.ensures).0 c.if-ne.true (ap (λ (o : OpeningText). o.refs) same)),
)

pub returns-then-ne-2 : goal.returns-then-ne-2
returns-then-ne-2 c = (
  λ never. absurd (true≢false (sym never)),
  λ same. absurd ((differ id_decides c.args.self.now.names.items c.args.other.now.names.items c.ne-2.result c.ne-2.ensures).0 c.if-ne-2.true (ap (λ (o : OpeningText). o.names) same)),
)

pub returns : goal.returns
returns c = (
  λ is. same_texts (opening_text c.args.self.now) (opening_text c.args.other.now)
      ((differ told_decides c.args.self.now.refs.items c.args.other.now.refs.items c.ne.result c.ne.ensures).1 c.if-ne.false)
      (c.are_same_heads.ensures.0 is)
      ((differ id_decides c.args.self.now.names.items c.args.other.now.names.items c.ne-2.result c.ne-2.ensures).1 c.if-ne-2.false),
  λ same. c.are_same_heads.ensures.1 (ap (λ (o : OpeningText). o.head) same),
)
