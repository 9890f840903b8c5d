use Rattle.std.proofs.Common.{rules, inl, inr, Some, None, subst}
use Rattle.vc_files.proofs.WearLemmas.{wears_then, wears_writes, writes_told}
use Rattle.vc_files.specs.FileMap.{FileMap}
use Rattle.vc_refs.specs.Refs.{refs}
use Rattle.vc_quarantine.proofs.WearLemmas.{wears_both}
use Rattle.vc_tracking.specs.Moving.{IsFound, IsFreeAmong, IsRight, IsSetWhereFree}
use Rattle.vc_tracking.proofs.MovingLemmas.{free_moves, set_moves}
use Rattle.vc_tracking.proofs.moving.move_ref.Goals as goal

pub set_where_free-requires-clause-read : goal.set_where_free-requires-clause-read
set_where_free-requires-clause-read g c = λ honest. rw c.in_ok-to.ensures.same (c.requires honest)

pub returns-in_err-to-clause-wear : goal.returns-in_err-to-clause-wear
returns-in_err-to-clause-wear g c = writes_told (wears_writes c.in_err-to.ensures.wear (λ _. c.in_err-to.ensures.same)) (search rules) (search rules)

pub returns-in_default-clause-wear : goal.returns-in_default-clause-wear
returns-in_default-clause-wear g c = writes_told (wears_writes c.in_ok-to.ensures.wear (λ _. c.in_ok-to.ensures.same)) (search rules) (search rules)

pub returns-in_default-clause-moved : goal.returns-in_default-clause-moved
returns-in_default-clause-moved g c = λ honest.
    let old = g.F.Files.content c.args.files.now in
    let none : IsRight old c.args.known.now c.args.generations.now → IsFound c.args.followed old c.args.name.now c.args.id.now None = λ right. search (rules, c.in_ok-to.ensures.found honest right.agrees right.whole) in
    ((λ right to moves. none right to moves.0), c.in_ok-to.ensures.same)

pub returns-in_err-moved-clause-wear : goal.returns-in_err-moved-clause-wear
returns-in_err-moved-clause-wear g c = wears_then c.in_ok-to.ensures.wear (λ _. c.in_ok-to.ensures.same) (search rules) (writes_told c.in_err-moved.ensures.wear (search rules) (search rules))

pub returns-clause-wear : goal.returns-clause-wear
returns-clause-wear g c = wears_then c.in_ok-to.ensures.wear (λ _. c.in_ok-to.ensures.same) (search rules) (writes_told c.in_ok-moved.ensures.wear (search rules) (search rules))

pub returns-in_err-moved-clause-looks : goal.returns-in_err-moved-clause-looks
returns-in_err-moved-clause-looks g c = λ honest.
    let content = g.F.Files.content in
    let old = content c.args.files.now in
    let Right : Type 0 = IsRight old c.args.known.now c.args.generations.now in
    let may : Right → IsFound c.args.followed old c.args.name.now c.args.id.now (Some (c.in-Some.to, c.in-Some.current)) = λ right. search (rules, c.in_ok-to.ensures.found honest right.agrees right.whole) in
    elim (c.in_err-moved.ensures.looks honest) [
      | inl free ↦ inl (free_moves Right c.args.followed old c.args.name.now c.args.id.now c.in-Some.to may (subst (λ (f : FileMap). IsFreeAmong (refs f) c.in-Some.to) c.in_ok-to.ensures.same free))
      | inr wears ↦ inr (wears_both c.in_ok-to.ensures.wear wears (search rules))
    ]

pub returns-clause-moved : goal.returns-clause-moved
returns-clause-moved g c = λ honest.
    let content = g.F.Files.content in
    let old = content c.args.files.now in
    let Right : Type 0 = IsRight old c.args.known.now c.args.generations.now in
    let may : Right → IsFound c.args.followed old c.args.name.now c.args.id.now (Some (c.in-Some.to, c.in-Some.current)) = λ right. search (rules, c.in_ok-to.ensures.found honest right.agrees right.whole) in
    set_moves Right c.args.followed old c.args.name.now c.args.id.now c.in-Some.to may (content c.set_where_free.new.files) c.in_ok-moved.moved
    (subst (λ (f : FileMap). IsSetWhereFree f (content c.set_where_free.new.files) c.in-Some.to c.args.id.now c.in_ok-moved.moved) c.in_ok-to.ensures.same (search (rules, c.in_ok-moved.ensures.set honest)))

pub returns-clause-looks : goal.returns-clause-looks
returns-clause-looks g c = λ honest.
    let content = g.F.Files.content in
    let old = content c.args.files.now in
    let Right : Type 0 = IsRight old c.args.known.now c.args.generations.now in
    let may : Right → IsFound c.args.followed old c.args.name.now c.args.id.now (Some (c.in-Some.to, c.in-Some.current)) = λ right. search (rules, c.in_ok-to.ensures.found honest right.agrees right.whole) in
    elim (c.in_ok-moved.ensures.looks honest) [
      | inl free ↦ inl (free_moves Right c.args.followed old c.args.name.now c.args.id.now c.in-Some.to may (subst (λ (f : FileMap). IsFreeAmong (refs f) c.in-Some.to) c.in_ok-to.ensures.same free))
      | inr wears ↦ inr (wears_both c.in_ok-to.ensures.wear wears (search rules))
    ]
