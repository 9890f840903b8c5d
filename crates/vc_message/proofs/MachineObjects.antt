-- The objects that a message brings, as the machine has them: they are one set, and each stands under its name.
use Rattle.std.proofs.Common.{◌≡◌, true, cond, List, Option, Some, None, Ok, Err, refl, ap, sym, ◌∙◌}
use Rattle.std.specs.Prelude.{option_map, option_and_then}
use Rattle.std.specs.FinMap.{get, same_map}
use Rattle.std.specs.Ordering.{is_eq}
use Rattle.std.specs.Cmp.Lexicographic.{nat_list_cmp_total}
use Rattle.std.proofs.lemmas.Option.{cond_some, none-some}
use Rattle.vc_format.specs.Git.{git_name, id_of_bytes}
use Rattle.vc_object.specs.Decoding.{StoredObject}
use Rattle.vc_object.specs.ObjectId.{id_cmp}
use Rattle.vc_pkt.specs.Carried.{object_named, stored_name}
use Rattle.vc_fetch.specs.Pack.{is_object}
use Rattle.vc_fetch.proofs.RefMaps.{same_name}
use Rattle.vc_lemmas.proofs.Lists.{found_passes}
use Rattle.vc_push.specs.Push.{Carried}
use Rattle.vc_push_rules.specs.Carrying.{objects_in}
use Rattle.vc_model.specs.Object.{Id, IsNamed, Object, Objects}
use Rattle.vc_model.proofs.Maps.{bytes_same}
use Rattle.vc_rules.specs.Git.{git, stored_of}
use Rattle.vc_rules.specs.OpenPushes.{AreBrought}
use Rattle.vc_rules.proofs.OnceLemmas.{some_once}

-- what is brought is one set
pub one_set : (c : Carried) (s u : Objects) → AreBrought c s → AreBrought c u → s ≡ u
one_set c s u a b = same_map nat_list_cmp_total bytes_same s u (λ x. some_once (get s x) (get u x) (a x ∙ sym (b x)))

-- ---- what is found

-- an object of the machine that is brought
pub record IsOne (c : Carried) (x : Id) (o : Object) : Type 0 where
  pub objects : List StoredObject
  pub all : c ≡ Ok objects
  pub found : object_named (id_of_bytes x) objects ≡ Some (stored_of o)
  pub passes : is_object (stored_of o) ≡ true

kept : (found : Option StoredObject) (o : StoredObject) → option_and_then (λ q. cond (is_object q) (Some q) None) found ≡ Some o → (found ≡ Some o) × (is_object o ≡ true)
kept None o e = absurd (none-some o e)
kept (Some q) o e = let k = cond_some (is_object q) q o e in (ap Some k.1, ap is_object (sym k.1) ∙ k.0)

pub brought_one : (c : Carried) (s : Objects) (x : Id) (o : Object) → AreBrought c s → get s x ≡ Some o → IsOne c x o
unfolding objects_in
brought_one (Ok objects) s x o brought e =
    let k = kept (object_named (id_of_bytes x) objects) (stored_of o) (sym (brought x) ∙ ap (option_map stored_of) e) in
    record { objects = objects; all = refl; found = k.0; passes = k.1 }
brought_one (Err bad) s x o brought e = absurd (none-some (stored_of o) (sym (brought x) ∙ ap (option_map stored_of) e))

-- each stands under its name
pub named_set : (c : Carried) (s : Objects) → AreBrought c s → IsNamed git s
named_set c s brought = record {
  named = λ x o e.
      let one = brought_one c s x o brought e in
      sym (same_name x (git_name o) (found_passes (λ q. is_eq (id_cmp (id_of_bytes x) (stored_name q))) one.objects (stored_of o) one.found));
}
