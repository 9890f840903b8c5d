use Rattle.std.proofs.Common.{◌≡◌, ◌++◌, ℕ, List, [], sym, ◌∙◌, Result, Ok, Err}
use Rattle.std.specs.Prelude.{OnOk, OnErr}
use Rattle.std.specs.Map.Iter.{deref}
use Rattle.std.proofs.lemmas.Map.Iter.{rest_more, rest_all}
use Rattle.std.proofs.lemmas.List.{append-nil}
use Rattle.vc_pkt.proofs.Bodies.{grown_twice}
use Rattle.vc_pkt.proofs.WrittenStreams.{all_left, one_less_left, none_left}
use Rattle.vc_pkt.proofs.object_writer.push_objects.Goals as goal

-- a growth that did all or nothing
either : {X Y : Type 0} (r : Result X Y) (old out now more : List ℕ) → (more : List ℕ) × (out ≡ old ++ more) → OnOk r (now ≡ out ++ more) → OnErr r (now ≡ out) → (more : List ℕ) × (now ≡ old ++ more)
either (Ok x) old out now more g ok err = grown_twice old out now g (more, ok)
either (Err y) old out now more g ok err = grown_twice old out now g ([], err ∙ sym (append-nil out))

ended : {X Y : Type 0} (r : Result X Y) (P Q : Type 0) → OnOk r P → (P → Q) → OnOk r Q
ended (Ok x) P Q h f = f h
ended (Err y) P Q h f = tt

pub objects-init : goal.objects-init
objects-init c = all_left _ _ _ (c.into_iter-object-iterator.ensures.into_iter_gives ∙ c.values-object-items.ensures.rest)

pub objects-preserved : goal.objects-preserved
objects-preserved c =
    let next = rest_more deref _ _ _ c.in-Some.object c.in-Some.is c.next.ensures.steps in
    one_less_left _ _ _ _ _ _ c.in-Some.object.now _ c.objects.invariant next c.deref.ensures.value c.in_ok-write_object.ensures.ok

pub returns-in_err-write_object-clause-grown : goal.returns-in_err-write_object-clause-grown
returns-in_err-write_object-clause-grown c = grown_twice _ _ _ c.objects.invariant.grown ([], c.in_err-write_object.ensures.err ∙ sym (append-nil _))

pub returns-clause-ok : goal.returns-clause-ok
returns-clause-ok c =
    let none = rest_all deref _ _ _ c.in-None.is c.next.ensures.steps in
    ended c.write_flush.result _ _ c.write_flush.ensures.ok (λ wrote. none_left _ _ _ _ _ c.objects.invariant none wrote)

pub returns-clause-grown : goal.returns-clause-grown
returns-clause-grown c = either c.write_flush.result _ _ _ _ c.objects.invariant.grown c.write_flush.ensures.ok c.write_flush.ensures.err
