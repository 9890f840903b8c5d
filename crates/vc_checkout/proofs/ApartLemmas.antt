-- Files above and below one another, for what a checkout leaves.
use Rattle.std.proofs.Common.{◌≡◌, ℕ, List, Option, Some, None, refl, ◌∙◌, subst, ◌⊎◌, inl, inr}
use Rattle.std.specs.Prelude.{IsSome}
use Rattle.std.specs.FinMap.{get}
use Rattle.vc_files.specs.FileMap.{FileMap}
use Rattle.vc_object.specs.ObjectMap.{ObjectMap}
use Rattle.vc_object.specs.declared.mode.Mode.{Mode}
use Rattle.vc_object.specs.declared.mode.Mode.TheVariants as modes
use Rattle.vc_index.proofs.FrontLemmas.{value_of}
use Rattle.vc_index.specs.IndexMap.{IndexMap, IsIndex}
use Rattle.vc_index.specs.Path.{IsAbove}
use Rattle.vc_index.specs.declared.entry.IndexEntry.{IndexEntry}
use Rattle.vc_checkout.specs.CheckedOut.{IsCleared, IsWritten, left_of}
use Rattle.vc_checkout.specs.Refusal.{IsClear, IsDue}
use Rattle.vc_checkout.specs.WorkTree.{AreApart, KeepsNone, StandsAlone}
use Rattle.vc_checkout.proofs.ApplyLemmas.{cleared_some}

-- while files go, none comes to lie below another one
pub apart_cleared : (index tree : IndexMap) (old now : FileMap) → ((q : List ℕ) → (get now q ≡ get old q) ⊎ IsCleared (get index q) (get tree q) (get old q) (get now q)) → AreApart old → AreApart now
apart_cleared index tree old now so were p q above some_p some_q =
    were p q above (cleared_some (get index p) (get tree p) (get old p) (get now p) (so p) some_p) (cleared_some (get index q) (get tree q) (get old q) (get now q) (so q) some_q)

-- ---- one path

no_entry_of : (o : Option IndexEntry) → (IsSome o → ⊥) → o ≡ None
no_entry_of None lacks = refl
no_entry_of (Some entry) lacks = absurd (lacks refl)

no_file : (file : Option (List ℕ)) → file ≡ None → IsSome file → ⊥
no_file file none some = cc (none, some)

none_left : (mode : Mode) (file : Option (List ℕ)) → (IsSome file → mode ≡ modes.Commit → ⊥) → left_of mode file ≡ None
none_left modes.Commit None kept = refl
none_left modes.Commit (Some bytes) kept = absurd (kept refl refl)
none_left modes.Tree file kept = refl
none_left modes.File file kept = refl
none_left modes.SharedFile file kept = refl
none_left modes.Executable file kept = refl
none_left modes.Link file kept = refl

-- what the tree lacks is gone, where no file was there that the index doesn't keep
all_gone : (i t : Option IndexEntry) (a b : Option (List ℕ)) → IsCleared i t a b → t ≡ None → (IsSome a → KeepsNone i → ⊥) → b ≡ None
all_gone None t None b cleared none kept = cleared.unknown refl
all_gone None t (Some bytes) b cleared none kept = absurd (kept refl tt)
all_gone (Some entry) t a b cleared none kept = cleared.gone entry refl none ∙ none_left entry.mode a kept

-- a file that is there at the end was there, or was due
came_from : (objects : ObjectMap) (i t : Option IndexEntry) (a b c : Option (List ℕ)) → IsCleared i t a b → (c ≡ b) ⊎ IsWritten objects i t b c → IsSome c → (IsDue i t → ⊥) → (IsSome a → ⊥) → ⊥
came_from objects i t a b c cleared (inl same) some not_due gone = gone (cleared_some i t a b (inr cleared) (subst IsSome same some))
came_from objects i None a b c cleared (inr written) some not_due gone = gone (cleared_some i None a b (inr cleared) (subst IsSome (written.none refl) some))
came_from objects i (Some entry) a b c cleared (inr written) some not_due gone = not_due (refl, λ same. gone (cleared_some i (Some entry) a b (inr cleared) (subst IsSome (written.same same) some)))

-- ---- all paths

module _ (objects : ObjectMap) (index tree : IndexMap) (old mid now : FileMap) (sound : IsIndex tree) (clear : (q : List ℕ) → IsClear index tree old q)
    (cleared : (q : List ℕ) → IsCleared (get index q) (get tree q) (get old q) (get mid q)) (written : (q : List ℕ) → (get now q ≡ get mid q) ⊎ IsWritten objects (get index q) (get tree q) (get mid q) (get now q)) where
  -- no file lies above or below what is due
  pub stands_alone : (p : List ℕ) → IsDue (get index p) (get tree p) → StandsAlone now p
  stands_alone p due q how = same (written q) ∙ all_gone (get index q) (get tree q) (get old q) (get mid q) (cleared q) no_tree kept
    where
      apart : IsAbove q p ⊎ IsAbove p q → IsSome (get tree q) → ⊥
      apart (inl above) some = sound.apart q p some due.0 above
      apart (inr above) some = sound.apart p q due.0 some above

      no_tree : get tree q ≡ None
      no_tree = no_entry_of (get tree q) (apart how)

      kept : IsSome (get old q) → KeepsNone (get index q) → ⊥
      kept some none =
          let (entry, at) = value_of (get tree p) due.0 in
          let free = (clear p).free in
          free (entry, at, due.1, (q, (some, none), inr how))

      same : (get now q ≡ get mid q) ⊎ IsWritten objects (get index q) (get tree q) (get mid q) (get now q) → get now q ≡ get mid q
      same (inl is) = is
      same (inr one) = one.none no_tree

  -- no file came to lie below another one
  pub apart_written : AreApart old → AreApart now
  apart_written were p q above some_p some_q =
      came_from objects (get index p) (get tree p) (get old p) (get mid p) (get now p) (cleared p) (written p) some_p (λ due. no_file (get now q) (stands_alone p due q (inr above)) some_q)
      (λ was_p. came_from objects (get index q) (get tree q) (get old q) (get mid q) (get now q) (cleared q) (written q) some_q (λ due. no_file (get now p) (stands_alone q due p (inl above)) some_p)
      (λ was_q. were p q above was_p was_q))
