use Rattle.std.proofs.Common.{◌≡◌, ◌∷◌, ◌++◌, [], inr, subst, sym}
use Rattle.std.specs.Prelude.{MatchResult, option_map}
use Rattle.vc_desk.specs.Entry.{answer_text}
use Rattle.vc_desk.specs.Talk.{IsOf}
use Rattle.vc_desk.proofs.Talking.{receipts_are}
use Rattle.vc_desk.proofs.work.settle.Goals as goal

pub returns-clause-settles : goal.returns-clause-settles
returns-clause-settles g c event mine =
    let receipt = c.in-Ok.receipt in
    inr (
      receipt.place,
      option_map (λ entry. answer_text entry.answer) receipt.entry,
      receipts_are c.args.name event c.push_reserved.new.self.items c.args.receipts.now.items receipt c.push_reserved.ensures.items (subst (λ t. IsOf c.args.name event t) c.in-Ok.is mine),
      c.tell_receipt-next.ensures,
    )

pub returns-clause-kept : goal.returns-clause-kept
returns-clause-kept g c =
    let old = c.args.receipts.now.items in
    let new = c.push_reserved.new.self.items in subst (λ t. MatchResult t (λ receipt. new ≡ old ++ receipt ∷ []) (λ e. new ≡ old)) (sym c.in-Ok.is) c.push_reserved.ensures.items
