-- Paths and their names.
use Rattle.std.proofs.Common.{◌≡◌, ℕ, Bool, true, false, List, length, refl, sym, ◌∙◌}
use Rattle.std.specs.Prelude.{◌≤◌, IsTrue, ◌↔◌}
use Rattle.std.specs.Bool.{Decides}
use Rattle.std.specs.List.{list_all}
use Rattle.vc_object.specs.Decoding.{is_entry_name}
use Rattle.vc_object.specs.Tree.{IsName}
use Rattle.vc_object.proofs.Decoding.{each_decides, name_decides}
use Rattle.vc_index.specs.Path.{names_in, IsPath}

-- the test of all names in a path
pub path_decides : (path : List ℕ) (b : Bool) → length path ≤ 4096 → b ≡ list_all is_entry_name (names_in path) → Decides b (IsPath path)
path_decides path b short is =
    let each = each_decides is_entry_name IsName name_decides (names_in path) in
    (λ h. record { names = each.0 (sym is ∙ h); short = short }, λ (p : IsPath path). is ∙ each.1 p.names)

same_answers : (a b : Bool) → (a ≡ true → b ≡ true) → (b ≡ true → a ≡ true) → a ≡ b
same_answers true b f g = sym (f refl)
same_answers false true f g = g refl
same_answers false false f g = refl

-- what answers whether a text is a name answers as the test does
pub name_test : (name : List ℕ) (b : Bool) → IsTrue b ↔ IsName name → b ≡ is_entry_name name
name_test name b told = same_answers b (is_entry_name name) (λ e. (name_decides name).1 (told.0 e)) (λ e. told.1 ((name_decides name).0 e))
