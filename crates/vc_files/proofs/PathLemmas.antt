-- For who asks whether a path lies in a folder: then it is the folder's path, a slash and a rest.
use Rattle.std.proofs.Common.{◌≡◌, ◌≢◌, ℕ, true, false, ◌&&◌, nat_eq, List, [], ◌∷◌, ◌++◌, drop, length, refl, sym, ap, ◌∙◌, append_assoc}
use Rattle.std.specs.List.{starts_with}
use Rattle.std.proofs.lemmas.Bool.{false_from_ne_true}
use Rattle.std.proofs.lemmas.Bool.Decides.{Decides-eqb}
use Rattle.std.proofs.lemmas.Slice.Eq.{starts_is}
use Rattle.vc_files.specs.Path.{is_above}

-- what lies in a folder has its path, a slash and a rest
pub is_above-parts : (folder path : List ℕ) → is_above folder path ≡ true → (rest : List ℕ) × (path ≡ folder ++ 47 ∷ rest)
is_above-parts folder path above =
    let rest = drop (length (folder ++ 47 ∷ [])) path in
    (rest, (starts_is Decides-eqb path (folder ++ 47 ∷ []) (is_above folder path) refl).0 above ∙ append_assoc folder (47 ∷ []) rest)

-- what has these lies in it
pub is_above-append : (folder rest : List ℕ) → is_above folder (folder ++ 47 ∷ rest) ≡ true
is_above-append folder rest =
    let path = folder ++ 47 ∷ rest in
    (starts_is Decides-eqb path (folder ++ 47 ∷ []) (is_above folder path) refl).1 rest (sym (append_assoc folder (47 ∷ []) rest))

-- a text behind the folder's path lies in it where it begins with a slash
pub is_above-behind : (folder rest : List ℕ) → starts_with nat_eq rest (47 ∷ []) ≡ is_above folder (folder ++ rest)
is_above-behind [] rest = refl
is_above-behind (x ∷ folder) rest = is_above-behind folder rest ∙ ap (λ b. b && is_above folder (folder ++ rest)) (sym ((Decides-eqb x x).1 refl))

-- a text that doesn't begin with the folder's path doesn't lie in it
pub is_above-never : (folder path : List ℕ) → ((rest : List ℕ) → path ≢ folder ++ rest) → false ≡ is_above folder path
is_above-never folder path never = sym (false_from_ne_true _ (λ above. let parts = is_above-parts folder path above in never (47 ∷ parts.0) parts.1))
