use Rattle.std.proofs.Common.{rules, ◌≡◌, ◌∙◌, [], ◌∷◌, ◌++◌, get_or, true, false, true≢false, Contains, sym}
use Rattle.vc_object.specs.declared.id.ObjectId.{ObjectId}
use Rattle.vc_pack.proofs.PickedLemmas.{IsPicked-next, IsPicked-next_passed}
use Rattle.vc_pack.proofs.counting.counted.Goals.{then-is_among+in_ok-push, else-is_among}
use Rattle.vc_pack.proofs.counting.counted.Goals as goal

pub loop-have-preserved : goal.loop-have-preserved
loop-have-preserved c =
    let ids = c.args.ids.now in
    let haves = c.args.haves.now in
    let place = c.loop-have.have-index in
    let none : ObjectId = record { 0 = [] } in
    let so_far = c.loop-have.counted.items in
    elim c.if-is_among.branch [
      | then-is_among+in_ok-push w ↦
          let pushed : c.if-is_among.counted.items ≡ so_far ++ get_or haves place none ∷ [] = search rules in
          let yes : c.is_among.result ≡ true = search rules in
          IsPicked-next (Contains ids) haves so_far c.if-is_among.counted.items place none c.loop-have-test.true c.loop-have.invariant (c.is_among.ensures.0 yes) pushed
      | else-is_among w ↦
          let kept : c.if-is_among.counted.items ≡ so_far = search rules in
          let no : c.is_among.result ≡ false = search rules in
          rw kept (IsPicked-next_passed (Contains ids) haves so_far place none c.loop-have-test.true c.loop-have.invariant (λ h. true≢false (sym (c.is_among.ensures.1 h) ∙ no)))
    ]
