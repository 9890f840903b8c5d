use Rattle.std.proofs.Common.{rules, take, length, below_more, sym, ap, ◌∙◌}
use Rattle.vc_index.proofs.ConflictLemmas.{above_cut, cut_above}
use Rattle.vc_checkout.specs.WorkTree.{has_path}
use Rattle.vc_checkout.proofs.hindrance.has_above.Goals.{else-byte-eq47-via-then-byte-eq47+else-contains, else-byte-eq47-via-else-byte-eq47}
use Rattle.vc_checkout.proofs.hindrance.has_above.Goals as goal

pub returns-then-contains : goal.returns-then-contains
returns-then-contains c =
    (λ _. (take c.loop-i.i c.args.path.now, search rules, cut_above c.args.path.now c.loop-i.i (search rules) (search rules)), λ _. search rules)

pub loop-i-preserved : goal.loop-i-preserved
loop-i-preserved c = below_more _ _ c.loop-i.invariant (λ slash. elim c.else-byte-eq47.branch [
  | else-byte-eq47-via-then-byte-eq47+else-contains w ↦ search rules
  | else-byte-eq47-via-else-byte-eq47 w ↦ absurd (w.if-byte-eq47.false slash)
])

pub returns : goal.returns
returns c = (
  λ no. absurd (cc no),
  λ (other, some, above).
      let cut = above_cut c.args.path.now other above.0 above.1 in
      let none = c.loop-i.invariant (length other) (search (rules, cut.0)) cut.1 in
      let lacks = ap (has_path c.args.paths.now) (sym cut.2) ∙ none in
      absurd (cc (lacks, some)),
)
