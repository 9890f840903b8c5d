-- What a push brings, as objects of the machine.
use Rattle.std.proofs.Common.{◌≡◌, Bool, true, false, cond, List, [], ◌∷◌, Option, Some, None, Ok, Err, refl, sym, ap, ◌∙◌}
use Rattle.std.specs.Prelude.{find, option_map, option_and_then}
use Rattle.std.specs.FinMap.{empty, get, get-empty, get-insert, get-remove, insert, remove}
use Rattle.std.specs.Ordering.{is_eq, nat_cmp}
use Rattle.std.specs.Cmp.Lexicographic.{slice_cmp, nat_list_cmp_total}
use Rattle.vc_format.specs.Git.{id_of_bytes, kind_of}
use Rattle.vc_model.specs.Object.{Id, Objects}
use Rattle.vc_object.specs.Decoding.{StoredObject, stored_object}
use Rattle.vc_object.specs.declared.kind.Kind.{Kind as ObjectKind}
use Rattle.vc_object.specs.declared.kind.Kind.TheVariants as kinds
use Rattle.vc_object.specs.Object.{object_name}
use Rattle.vc_object.specs.ObjectId.{id_cmp}
use Rattle.vc_push_rules.specs.Carrying.{objects_in}
use Rattle.vc_rules.specs.Git.{machine_kind, machine_object, stored_of}
use Rattle.vc_rules.specs.OpenPushes.{EachIsBrought}

pub kind_back : (k : ObjectKind) → kind_of (machine_kind k) ≡ k
kind_back kinds.Blob = refl
kind_back kinds.Tree = refl
kind_back kinds.Commit = refl
kind_back kinds.Tag = refl

stored_back : (o : StoredObject) → stored_of (machine_object o.kind o.body) ≡ o
stored_back o = ap (λ (k : ObjectKind). stored_object k o.body) (kind_back o.kind)

-- by name, where the first of that name passes the test
module _ (test : StoredObject → Option StoredObject) where
  with_first : Objects → Id → Option StoredObject → Objects
  with_first c name None = remove c name
  with_first c name (Some o) = insert c name (machine_object o.kind o.body)

  objects_from : List StoredObject → Objects
  objects_from [] = empty
  objects_from (o ∷ os) = with_first (objects_from os) (object_name o.kind o.body).0 (test o)

  module _ (c : Objects) (o : StoredObject) (rest : Option StoredObject) (x : Id) (same : option_map stored_of (get c x) ≡ option_and_then test rest) where
    put : (v : StoredObject) → test o ≡ Some v → (here : Bool) → option_map stored_of (cond here (Some (machine_object v.kind v.body)) (get c x)) ≡ option_and_then test (cond here (Some o) rest)
    put v e true = ap Some (stored_back v) ∙ sym e
    put v e false = same

    left_out : test o ≡ None → (here : Bool) → option_map stored_of (cond here None (get c x)) ≡ option_and_then test (cond here (Some o) rest)
    left_out e true = sym e
    left_out e false = same

    one_more : (name : Id) (found : Option StoredObject) → test o ≡ found → option_map stored_of (get (with_first c name found) x) ≡ option_and_then test (cond (is_eq (slice_cmp nat_cmp x name)) (Some o) rest)
    unfolding with_first
    one_more name None e = ap (option_map stored_of) (get-remove nat_list_cmp_total c name x) ∙ left_out e (is_eq (slice_cmp nat_cmp x name))
    one_more name (Some v) e = ap (option_map stored_of) (get-insert nat_list_cmp_total c name (machine_object v.kind v.body) x) ∙ put v e (is_eq (slice_cmp nat_cmp x name))

  from_list : (os : List StoredObject) (x : Id) → option_map stored_of (get (objects_from os) x) ≡ option_and_then test (find (λ o. is_eq (id_cmp (id_of_bytes x) (object_name o.kind o.body))) os)
  unfolding objects_from
  from_list [] x = ap (option_map stored_of) (get-empty (slice_cmp nat_cmp) x)
  from_list (o ∷ os) x =
      one_more (objects_from os) o (find (λ p. is_eq (id_cmp (id_of_bytes x) (object_name p.kind p.body))) os) x (from_list os x) (object_name o.kind o.body).0 (test o) refl

pub each_is_brought : EachIsBrought
unfolding objects_in
each_is_brought (Ok os) = (objects_from _ os, from_list _ os)
each_is_brought (Err bad) = (empty, λ x. ap (option_map stored_of) (get-empty (slice_cmp nat_cmp) x))
