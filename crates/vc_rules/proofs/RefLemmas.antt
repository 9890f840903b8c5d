-- Names that are in each other's way, and values of refs, as the machine has them and as files do.
use Rattle.std.proofs.Common.{◌≡◌, inl, inr, ℕ, Bool, true, false, cond, List, ◌∷◌, ◌++◌, Option, Some, None, true≢false, refl, sym, ap, ◌∙◌}
use Rattle.std.specs.Prelude.{option_map, is_some, bytes_eq, ◌||◌}
use Rattle.std.specs.FinMap.{get, insert}
use Rattle.vc_files.specs.Path.{is_above}
use Rattle.vc_files.proofs.PathLemmas.{is_above-append, is_above-parts}
use Rattle.vc_format.specs.Git.{bytes_of_id, id_of_bytes}
use Rattle.vc_model.specs.Object.{Id}
use Rattle.vc_model.specs.Refs.{AreApart, Conflicts, RefName, Refs}
use Rattle.vc_object.specs.declared.id.ObjectId.{ObjectId}
use Rattle.vc_refs.specs.RefMap.{RefMap, IsFolder, IsRefMap, conflicts, with_ref}
use Rattle.vc_rules.proofs.MapLemmas.{get-put, map_cond}

folder_from : (a b : List ℕ) → (rest : List ℕ) × (b ≡ a ++ 47 ∷ rest) → is_above a b ≡ true
folder_from a b h = ap (is_above a) h.1 ∙ is_above-append a h.0

pub conflicts_from : (a b : List ℕ) → conflicts a b ≡ true → Conflicts a b
conflicts_from a b h = by (is_above a b) refl
  where
    by : (x : Bool) → is_above a b ≡ x → Conflicts a b
    by true e = inl (is_above-parts a b e)
    by false e = inr (is_above-parts b a (ap (λ x. x || is_above b a) (sym e) ∙ h))

pub conflicts_to : (a b : List ℕ) → Conflicts a b → conflicts a b ≡ true
conflicts_to a b (inl h) = ap (λ x. x || is_above b a) (folder_from a b h)
conflicts_to a b (inr h) = by (is_above a b)
  where
    by : (x : Bool) → x || is_above b a ≡ true
    by true = refl
    by false = folder_from b a h

pub some_id : (found : Option Id) (x : Id) → found ≡ Some x → is_some (option_map id_of_bytes found) ≡ true
some_id None x e = cc
some_id (Some y) x e = refl

pub id_some : (found : Option Id) → is_some (option_map id_of_bytes found) ≡ true → (x : Id) × (found ≡ Some x)
id_some None h = absurd (cc h)
id_some (Some x) h = (x, refl)

pub no_id : (found : Option Id) → option_map id_of_bytes found ≡ None → found ≡ None
no_id None h = refl
no_id (Some x) h = absurd (cc h)

pub that_id : (found : Option Id) (x : Id) → option_map id_of_bytes found ≡ Some (id_of_bytes x) → found ≡ Some x
that_id None x h = absurd (cc h)
that_id (Some y) x h = ap (option_map bytes_of_id) h

-- the refs are apart just if the machine's are
module _ (map : RefMap) (rs : Refs) (rel : (n : RefName) → map n ≡ option_map id_of_bytes (get rs n)) where
  held : (n : RefName) (x : Id) → get rs n ≡ Some x → is_some (map n) ≡ true
  held n x found = ap is_some (rel n) ∙ some_id (get rs n) x found

  pub apart_from_map : IsRefMap map → AreApart rs
  apart_from_map refs m n x y here there conflict = true≢false (sym (conflicts_to m n conflict) ∙ refs.apart m n (held m x here) (held n y there))

  pub folder_apart : (name : List ℕ) → IsFolder map name → AreApart rs → ⊥
  folder_apart name folder apart =
      let here = id_some (get rs name) (sym (ap is_some (rel name)) ∙ folder.held) in
      let there = id_some (get rs folder.other) (sym (ap is_some (rel folder.other)) ∙ folder.there) in
      apart name folder.other here.0 there.0 here.1 there.1 (inl (is_above-parts name folder.other folder.above))

-- the refs with one set
pub set_rel : (map : RefMap) (rs : Refs) (rel : (n : RefName) → map n ≡ option_map id_of_bytes (get rs n)) (name : List ℕ) (id : ObjectId) (q : RefName)
    → with_ref map name id q ≡ option_map id_of_bytes (get (insert rs name id.0) q)
unfolding with_ref
set_rel map rs rel name id q =
    ap (cond (bytes_eq q name) (Some id)) (rel q) ∙ map_cond id_of_bytes (bytes_eq q name) (Some id.0) (get rs q) ∙ ap (option_map id_of_bytes) (sym (get-put rs name q id.0))
