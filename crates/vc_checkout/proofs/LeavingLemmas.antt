-- The folders of a work tree, one path after another.
use Rattle.std.proofs.Common.{◌≡◌, ◌≢◌, ℕ, Bool, true, false, not, ◌||◌, List, [], ◌∷◌, Option, Some, None, sym, ap, refl, ◌∙◌, subst, ◌⊎◌, inl, inr}
use Rattle.std.specs.Prelude.{IsSome, IsUtf8}
use Rattle.std.specs.FinMap as files
use Rattle.std.specs.FinMap.{get}
use Rattle.std.proofs.Math.Bool.{or-true}
use Rattle.vc_files.specs.FileMap.{FileMap}
use Rattle.vc_object.specs.declared.mode.Mode.TheVariants as modes
use Rattle.vc_index.specs.Path.{IsAbove}
use Rattle.vc_index.specs.declared.entry.IndexEntry.{IndexEntry}
use Rattle.vc_index.proofs.MapLemmas.{same_text, is_eq-same}
use Rattle.vc_checkout.specs.CheckedOut.{IsCleared, StepAt}
use Rattle.vc_work_tree.specs.Folders.{AreFolders, Folders, IsAtOrIn, IsFolder, IsFolderBy, IsLowestAbove}
use Rattle.vc_checkout.specs.FoldersAfter.{AreBetween, IsFolderFor, IsLeft}
use Rattle.vc_checkout.specs.WorkTree.{HasTextPaths}
use Rattle.vc_work_tree.specs.Paths.{is_same, is_listed}
use Rattle.vc_work_tree.proofs.ChangeLemmas.{removed_at, removed_others}
use Rattle.vc_work_tree.proofs.FolderLemmas.{above_in, above_itself, above_or_not, above_then, folder_above, folder_itself, folder_map, in_above, same_or_not, still_folders}

abbrev Those : Type 1
Those = List ℕ → Type 0

abbrev pub Keeps : FileMap → FileMap → Type 0
Keeps old new = (path : List ℕ) → IsSome (get old path) → IsSome (get new path)

pub keeps_same : (old new : FileMap) → new ≡ old → Keeps old new
keeps_same old new is path some = subst (λ (m : FileMap). IsSome (get m path)) (sym is) some

pub kept_same : (old new : FileMap) → new ≡ old → Keeps new old
kept_same old new is path some = subst (λ (m : FileMap). IsSome (get m path)) is some

pub kept_removed : (old new : FileMap) (p : List ℕ) → new ≡ files.remove old p → Keeps new old
kept_removed old new p is path some = by (same_or_not path p)
  where
    by : (path ≡ p) ⊎ (path ≢ p) → IsSome (get old path)
    by (inl same) = let none : get new path ≡ None = ap (get new) same ∙ removed_at old new p is in absurd (cc (none, some))
    by (inr apart) = subst (λ (o : Option (List ℕ)). IsSome o) (removed_others old new p is path apart) some

-- ---- folders by other words
module _ (work : FileMap) (held : Folders) where
  pub is_folder : (P : Those) (d : List ℕ) → AreFolders work held P → P d → IsFolder work held d
  is_folder P d are p = (are.exact d).1 (folder_itself work P d p)

  pub are_same : (P Q : Those) → AreFolders work held P → ((d : List ℕ) → P d → Q d) → ((d : List ℕ) → Q d → P d) → AreFolders work held Q
  are_same P Q are there back = record {
    exact = λ d. (
      λ is. folder_map work work P Q (λ path some. some) (λ one p. folder_itself work Q one (there one p)) d ((are.exact d).0 is),
      λ is. (are.exact d).1 (folder_map work work Q P (λ path some. some) (λ one q. folder_itself work P one (back one q)) d is),
    );
  }

-- the same folders, of the same files
pub moved_folders : (old new : FileMap) (was held : Folders) → new ≡ old → held ≡ was → (P : Those) → AreFolders old was P → AreFolders new held P
moved_folders old new was held files same P are =
    subst (λ (f : FileMap). AreFolders f held P) (sym files) (subst (λ (s : Folders). AreFolders old s P) (sym same) are)

pub still_there : (old new : FileMap) (was held : Folders) → new ≡ old → held ≡ was → AreFolders new held (IsFolder old was)
still_there old new was held files same = moved_folders old new was held files same (IsFolder old was) (still_folders old was)

-- ---- some folders go
-- those that are left go, where a file that goes lies only in those that are left, and what is above one that is left is left too
module _ (mid now : FileMap) (held new : Folders) (Q L : Those) (lost : (r : List ℕ) → IsSome (get mid r) → IsSome (get now r) ⊎ ((d : List ℕ) → IsAbove d r → L d)) (up : (d e : List ℕ) → IsAtOrIn d e → L e → L d) where
  pub less : AreFolders mid held Q → AreFolders now new (λ d. IsFolder mid held d × (L d → ⊥)) → AreFolders now new (λ d. Q d × (L d → ⊥))
  less first second = record { exact = λ d. (λ is. by d ((second.exact d).0 is), λ is. (second.exact d).1 (back d is)) }
    where
      stays : (d : List ℕ) → IsFolderBy mid Q d → (L d → ⊥) → IsFolderBy now (λ d. Q d × (L d → ⊥)) d
      stays d (inl (r, above, some)) apart = there (lost r some)
        where
          there : IsSome (get now r) ⊎ ((d : List ℕ) → IsAbove d r → L d) → IsFolderBy now (λ d. Q d × (L d → ⊥)) d
          there (inl still) = inl (r, above, still)
          there (inr left) = absurd (apart (left d above))
      stays d (inr (one, q, at)) apart = inr (one, (q, λ l. apart (up d one at l)), at)

      by : (d : List ℕ) → IsFolderBy now (λ d. IsFolder mid held d × (L d → ⊥)) d → IsFolderBy now (λ d. Q d × (L d → ⊥)) d
      by d (inl file) = inl file
      by d (inr (one, is, at)) = folder_above now (λ d. Q d × (L d → ⊥)) d one at (stays one ((first.exact one).0 is.0) is.1)

      back : (d : List ℕ) → IsFolderBy now (λ d. Q d × (L d → ⊥)) d → IsFolderBy now (λ d. IsFolder mid held d × (L d → ⊥)) d
      back d (inl file) = inl file
      back d (inr (one, q, at)) = inr (one, (is_folder mid held Q one first q.0, q.1), at)

-- ---- the folders above a path, from the lowest on
module _ (old mid now : FileMap) (was held new : Folders) (path below : List ℕ) (from_old : Keeps mid old) (up : Keeps mid now) where
  abbrev Chain : List ℕ → Those
  Chain end d = IsFolder old was d × (IsAbove d path → IsAbove d end)

  chain_was : (d : List ℕ) → AreFolders mid held (Chain below) → IsFolder mid held d → IsFolder old was d
  chain_was d are is = by ((are.exact d).0 is)
    where
      by : IsFolderBy mid (Chain below) d → IsFolder old was d
      by (inl (r, above, some)) = inl (r, above, from_old r some)
      by (inr (one, c, at)) = folder_above old _ d one at c.0

  pub chain_more : (folder : List ℕ) → IsLowestAbove folder below → IsAtOrIn below path → AreFolders mid held (Chain below) → AreFolders now new (λ d. IsFolder mid held d × (d ≢ folder)) → AreFolders now new (Chain folder)
  chain_more folder lowest inside first second = record { exact = λ d. (λ is. by d ((second.exact d).0 is), λ is. (second.exact d).1 (back d is)) }
    where
      ends : (one two : List ℕ) → IsFolder mid held one → one ≢ folder → Chain below two → IsAtOrIn one two → (two ≡ folder) ⊎ (two ≢ folder) → IsFolderBy now (Chain folder) one
      ends one two is apart c at (inl same) = folder_itself now (Chain folder) one (chain_was one first is, λ _. strictly at)
        where
          strictly : IsAtOrIn one two → IsAbove one folder
          strictly (inl itself) = absurd (apart (sym itself ∙ same))
          strictly (inr above) = subst (IsAbove one) same above
      ends one two is apart c at (inr other) = folder_above now (Chain folder) one two at (folder_itself now (Chain folder) two (c.0, λ above. strictly (lowest.lowest two (c.1 above))))
        where
          strictly : IsAtOrIn two folder → IsAbove two folder
          strictly (inl itself) = absurd (other (sym itself))
          strictly (inr above) = above

      stays : (one : List ℕ) → IsFolder mid held one → one ≢ folder → IsFolderBy mid (Chain below) one → IsFolderBy now (Chain folder) one
      stays one is apart (inl (r, above, some)) = inl (r, above, up r some)
      stays one is apart (inr (two, c, at)) = ends one two is apart c at (same_or_not two folder)

      by : (d : List ℕ) → IsFolderBy now (λ d. IsFolder mid held d × (d ≢ folder)) d → IsFolderBy now (Chain folder) d
      by d (inl file) = inl file
      by d (inr (one, is, at)) = folder_above now (Chain folder) d one at (stays one is.0 is.1 ((first.exact one).0 is.0))

      back : (d : List ℕ) → IsFolderBy now (Chain folder) d → IsFolderBy now (λ d. IsFolder mid held d × (d ≢ folder)) d
      back d (inl file) = inl file
      back d (inr (one, c, at)) = inr (
        one,
        (
          is_folder mid held (Chain below) one first (c.0, λ above. above_then one folder below (c.1 above) lowest.above),
          λ same. above_itself folder (subst (λ (x : List ℕ). IsAbove x folder) same (c.1 (subst (λ (x : List ℕ). IsAbove x path) (sym same) (above_in folder below path lowest.above inside)))),
        ),
        at,
      )

module _ (old now : FileMap) (was new : Folders) (path : List ℕ) where
  abbrev Rest : Those
  Rest d = IsFolder old was d × (IsAbove d path → ⊥)

  -- where a folder stays, something lies in it and in all above
  pub chain_stops : (folder : List ℕ) → AreFolders now new (λ d. IsFolder old was d × (IsAbove d path → IsAbove d folder)) → IsFolder now new folder → AreFolders now new Rest
  chain_stops folder are there = record { exact = λ d. (λ is. by d ((are.exact d).0 is), λ is. (are.exact d).1 (folder_map now now Rest (λ d. IsFolder old was d × (IsAbove d path → IsAbove d folder)) (λ r some. some) (λ one c. folder_itself now (λ d. IsFolder old was d × (IsAbove d path → IsAbove d folder)) one (c.0, λ above. absurd (c.1 above))) d is)) }
    where
      not_above : (two : List ℕ) → IsAtOrIn folder two → (IsAbove two path → IsAbove two folder) → IsAbove two path → ⊥
      not_above two at f above = above_itself folder (in_above folder two folder at (f above))

      held_up : IsFolderBy now (λ d. IsFolder old was d × (IsAbove d path → IsAbove d folder)) folder → IsFolderBy now Rest folder
      held_up (inl file) = inl file
      held_up (inr (two, c, at)) = inr (two, (c.0, not_above two at c.1), at)

      one_by : (one : List ℕ) → IsFolder old was one → (IsAbove one path → IsAbove one folder) → IsAbove one path ⊎ (IsAbove one path → ⊥) → IsFolderBy now Rest one
      one_by one is f (inl above) = folder_above now Rest one folder (inr (f above)) (held_up ((are.exact folder).0 there))
      one_by one is f (inr free) = folder_itself now Rest one (is, free)

      by : (d : List ℕ) → IsFolderBy now (λ d. IsFolder old was d × (IsAbove d path → IsAbove d folder)) d → IsFolderBy now Rest d
      by d (inl file) = inl file
      by d (inr (one, c, at)) = folder_above now Rest d one at (one_by one c.0 c.1 (above_or_not one path))

  pub chain_ends : (below : List ℕ) → ((folder : List ℕ) → IsAbove folder below → ⊥) → AreFolders now new (λ d. IsFolder old was d × (IsAbove d path → IsAbove d below)) → AreFolders now new Rest
  chain_ends below never are = are_same now new (λ d. IsFolder old was d × (IsAbove d path → IsAbove d below)) Rest are (λ d c. (c.0, λ above. never d (c.1 above))) (λ d c. (c.0, λ above. absurd (c.1 above)))

  pub chain_between : (below : List ℕ) → Keeps now old → AreFolders now new (λ d. IsFolder old was d × (IsAbove d path → IsAbove d below)) → AreBetween now new Rest (IsFolder old was)
  chain_between below files are = record {
    least = λ d c. is_folder now new (λ d. IsFolder old was d × (IsAbove d path → IsAbove d below)) d are (c.0, λ above. absurd (c.1 above));
    most = λ d is. by d ((are.exact d).0 is);
  }
    where
      by : (d : List ℕ) → IsFolderBy now (λ d. IsFolder old was d × (IsAbove d path → IsAbove d below)) d → IsFolder old was d
      by d (inl (r, above, some)) = inl (r, above, files r some)
      by d (inr (one, c, at)) = folder_above old _ d one at c.0

pub chain_start : (old now : FileMap) (was new : Folders) (path : List ℕ) → now ≡ old → new ≡ was → AreFolders now new (λ d. IsFolder old was d × (IsAbove d path → IsAbove d path))
chain_start old now was new path files same = are_same now new (IsFolder old was) (λ d. IsFolder old was d × (IsAbove d path → IsAbove d path)) (still_there old now was new files same) (λ d is. (is, λ above. above)) (λ d c. c.0)

-- ---- between
-- what is between two bounds and loses more is between these
pub between_then : (mid now : FileMap) (held new : Folders) (Least Most Less Whole : Those) → AreBetween mid held Least Most → AreBetween now new (λ d. IsFolder mid held d × (Less d → ⊥)) (IsFolder mid held)
    → ((d : List ℕ) → Whole d → Least d) → ((d : List ℕ) → Whole d → Less d → ⊥) → AreBetween now new Whole Most
between_then mid now held new Least Most Less Whole first second least less = record {
  least = λ d is. second.least d (first.least d (least d is), less d is);
  most = λ d is. first.most d (second.most d is);
}

-- exactly some are between bounds
pub exact_between : (work : FileMap) (held : Folders) (P Least Most : Those) → AreFolders work held P → ((d : List ℕ) → Least d → P d) → ((r : List ℕ) → IsSome (get work r) → (d : List ℕ) → IsAbove d r → Most d) → ((one d : List ℕ) → P one → IsAtOrIn d one → Most d) → AreBetween work held Least Most
exact_between work held P Least Most are least files ones = record {
  least = λ d is. is_folder work held P d are (least d is);
  most = λ d is. by d ((are.exact d).0 is);
}
  where
    by : (d : List ℕ) → IsFolderBy work P d → Most d
    by d (inl (r, above, some)) = files r some d above
    by d (inr (one, p, at)) = ones one d p at

-- nothing changed
pub between_same : (old now : FileMap) (was new : Folders) (Least : Those) → now ≡ old → new ≡ was → ((d : List ℕ) → Least d → IsFolder old was d) → AreBetween now new Least (IsFolder old was)
between_same old now was new Least files same least = exact_between now new (IsFolder old was) Least (IsFolder old was) (still_there old now was new files same) least (λ r some d above. inl (r, above, kept_same old now files r some)) (λ one d is at. folder_above old _ d one at is)

-- ---- one entry goes
-- what an entry's folder lies in is its folder too
pub for_above : (entry : IndexEntry) (path d e : List ℕ) → IsAtOrIn d e → IsFolderFor entry path e → IsFolderFor entry path d
for_above entry path d e at (inl above) = inl (in_above d e path at above)
for_above entry path d e (inl same) (inr (is, commit)) = inr (sym same ∙ is, commit)
for_above entry path d e (inr above) (inr (is, commit)) = inl (subst (IsAbove d) is above)

module _ (old mid now : FileMap) (was held new : Folders) (entry : IndexEntry) (path : List ℕ) where
  abbrev pub Goes : Those
  Goes d = IsUtf8 path × IsFolderFor entry path d

  abbrev pub Left : Those
  Left d = IsFolder old was d × (Goes d → ⊥)

  -- its file, then the folders above it
  pub out_file : IsUtf8 path → entry.mode ≢ modes.Commit → Keeps mid now → AreFolders mid held (IsFolder old was) → AreFolders now new (λ d. IsFolder mid held d × (IsAbove d path → ⊥)) → AreFolders now new Left
  out_file text file up first second =
      are_same now new (λ d. IsFolder old was d × (IsAbove d path → ⊥)) Left
      (less mid now held new (IsFolder old was) (λ d. IsAbove d path) (λ r some. inl (up r some)) (λ d e at above. in_above d e path at above) first second)
      (λ d is. (is.0, λ goes. by d is.1 goes.1)) (λ d is. (is.0, λ above. is.1 (text, inl above)))
    where
      by : (d : List ℕ) → (IsAbove d path → ⊥) → IsFolderFor entry path d → ⊥
      by d never (inl above) = never above
      by d never (inr (is, commit)) = file commit

  -- its folder, then those above it
  pub out_folder : IsUtf8 path → entry.mode ≡ modes.Commit → Keeps mid now → AreFolders mid held (λ d. IsFolder old was d × (d ≢ path)) → AreFolders now new (λ d. IsFolder mid held d × (IsAbove d path → ⊥)) → AreFolders now new Left
  out_folder text commit up first second =
      are_same now new (λ d. (IsFolder old was d × (d ≢ path)) × (IsAbove d path → ⊥)) Left
      (less mid now held new (λ d. IsFolder old was d × (d ≢ path)) (λ d. IsAbove d path) (λ r some. inl (up r some)) (λ d e at above. in_above d e path at above) first second)
      (λ d is. (is.0.0, λ goes. by d is.0.1 is.1 goes.1)) (λ d is. ((is.0, λ same. is.1 (text, inr (same, commit))), λ above. is.1 (text, inl above)))
    where
      by : (d : List ℕ) → (d ≢ path) → (IsAbove d path → ⊥) → IsFolderFor entry path d → ⊥
      by d other never (inl above) = never above
      by d other never (inr (is, commit)) = other is

  -- where it ends early: Q is what the first call left
  pub out_between : IsUtf8 path → (Q : Those) → ((d : List ℕ) → Left d → Q d) → ((d : List ℕ) → Q d → IsFolder old was d) → Keeps mid old → AreFolders mid held Q → AreBetween now new (λ d. IsFolder mid held d × (IsAbove d path → ⊥)) (IsFolder mid held) → AreBetween now new Left (IsFolder old was)
  out_between text Q there back files first second =
      between_then mid now held new Left (IsFolder old was) (λ d. IsAbove d path) Left
      (exact_between mid held Q Left (IsFolder old was) first there (λ r some d above. inl (r, above, files r some)) (λ one d q at. folder_above old _ d one at (back one q)))
      second (λ d is. is) (λ d is above. is.1 (text, inl above))

-- no text, no file
pub out_nothing : (old : FileMap) (was : Folders) (entry : IndexEntry) (path : List ℕ) → (IsUtf8 path → ⊥) → AreFolders old was (Left old old old was was was entry path)
out_nothing old was entry path no_text = are_same old was (IsFolder old was) (λ d. IsFolder old was d × ((IsUtf8 path × IsFolderFor entry path d) → ⊥)) (still_folders old was) (λ d is. (is, λ goes. no_text goes.0)) (λ d is. is.0)

-- ---- what the index has at a path and the tree lacks
pub left_as : (old new : Option IndexEntry) (entry : IndexEntry) (path d : List ℕ) → old ≡ Some entry → new ≡ None → IsUtf8 path × IsFolderFor entry path d → IsLeft old new path d
left_as old new entry path d is none goes = (entry, is, none, goes.0, goes.1)

pub left_was : (old new : Option IndexEntry) (entry : IndexEntry) (path d : List ℕ) → old ≡ Some entry → IsLeft old new path d → IsUtf8 path × IsFolderFor entry path d
left_was old new entry path d is (other, there, none, text, for_it) = (text, subst (λ (e : IndexEntry). IsFolderFor e path d) (same_entry other entry (sym there ∙ is)) for_it)
  where
    same_entry : (x y : IndexEntry) → Some x ≡ Some y → x ≡ y
    same_entry x y e = cc e

pub left_unknown : (old new : Option IndexEntry) (path d : List ℕ) → old ≡ None → IsLeft old new path d → ⊥
left_unknown old new path d none (entry, there, gone, text, for_it) = cc (none, there)

pub left_kept : (old new : Option IndexEntry) (path d : List ℕ) → IsSome new → IsLeft old new path d → ⊥
left_kept old new path d some (entry, there, gone, text, for_it) = let e : IsSome {T = IndexEntry} None = subst IsSome gone some in cc e

pub left_above : (old new : Option IndexEntry) (path d e : List ℕ) → IsAtOrIn d e → IsLeft old new path e → IsLeft old new path d
left_above old new path d e at (entry, there, gone, text, for_it) = (entry, there, gone, text, for_above entry path d e at for_it)

pub still_unless : (work : FileMap) (held : Folders) (L : Those) → ((d : List ℕ) → L d → ⊥) → AreFolders work held (λ d. IsFolder work held d × (L d → ⊥))
still_unless work held L never = are_same work held (IsFolder work held) (λ d. IsFolder work held d × (L d → ⊥)) (still_folders work held) (λ d is. (is, never d)) (λ d is. is.0)

pub less_same : (work : FileMap) (held : Folders) (Was L M : Those) → ((d : List ℕ) → L d → M d) → ((d : List ℕ) → M d → L d) → AreFolders work held (λ d. Was d × (L d → ⊥)) → AreFolders work held (λ d. Was d × (M d → ⊥))
less_same work held Was L M there back are = are_same work held (λ d. Was d × (L d → ⊥)) (λ d. Was d × (M d → ⊥)) are (λ d is. (is.0, λ m. is.1 (back d m))) (λ d is. (is.0, λ l. is.1 (there d l)))

pub between_less : (work : FileMap) (held : Folders) (Was L M Most : Those) → ((d : List ℕ) → L d → M d) → AreBetween work held (λ d. Was d × (L d → ⊥)) Most → AreBetween work held (λ d. Was d × (M d → ⊥)) Most
between_less work held Was L M Most there are = record { least = λ d is. are.least d (is.0, λ l. is.1 (there d l)); most = are.most }

-- a file that goes lies in folders that were there for it
pub clear_lost : (old new : Option IndexEntry) (k : List ℕ) (mid now : FileMap) → HasTextPaths mid → StepAt (IsCleared old new) k mid now → (r : List ℕ) → IsSome (get mid r) → IsSome (get now r) ⊎ ((d : List ℕ) → IsAbove d r → IsLeft old new k d)
clear_lost old new k mid now texts step r some = by (same_or_not r k)
  where
    at : (i t : Option IndexEntry) (a b : Option (List ℕ)) → IsCleared i t a b → IsSome a → IsUtf8 k → IsSome b ⊎ ((d : List ℕ) → IsAbove d k → IsLeft i t k d)
    at None t a b c there text = inl (subst IsSome (sym (c.unknown refl)) there)
    at (Some e) (Some f) a b c there text = inl (subst IsSome (sym (c.kept refl)) there)
    at (Some e) None a b c there text = inr (λ d above. (e, refl, refl, text, inl above))

    moved : (r ≡ k) → IsSome (get now k) ⊎ ((d : List ℕ) → IsAbove d k → IsLeft old new k d) → IsSome (get now r) ⊎ ((d : List ℕ) → IsAbove d r → IsLeft old new k d)
    moved same (inl still) = inl (subst (λ (p : List ℕ). IsSome (get now p)) (sym same) still)
    moved same (inr left) = inr (λ d above. left d (subst (IsAbove d) same above))

    by : (r ≡ k) ⊎ (r ≢ k) → IsSome (get now r) ⊎ ((d : List ℕ) → IsAbove d r → IsLeft old new k d)
    by (inr apart) = inl (subst IsSome (sym (step.others r apart)) some)
    by (inl same) = moved same (at old new (get mid k) (get now k) step.at (subst (λ (p : List ℕ). IsSome (get mid p)) same some) (texts k (subst (λ (p : List ℕ). IsSome (get mid p)) same some)))

-- ---- all paths
pub unnot : (b : Bool) → not b ≡ true → b ≡ false
unnot true e = cc e
unnot false e = refl

pub same_or_before : (q k : List ℕ) (done : Bool) → (is_same q k || done) ≡ true → (q ≡ k) ⊎ (done ≡ true)
same_or_before q k done e = by (is_same q k) refl e
  where
    by : (b : Bool) → is_same q k ≡ b → (b || done) ≡ true → (q ≡ k) ⊎ (done ≡ true)
    by true same f = inl (same_text q k same)
    by false other f = inr f

pub covered : (done : List ℕ → Bool) (before rest : List (List ℕ)) (k : List ℕ) → before ≡ k ∷ rest → ((q : List ℕ) → is_listed q before ≡ false → done q ≡ true) → (q : List ℕ) → is_listed q rest ≡ false → (is_same q k || done q) ≡ true
covered done before rest k first covers q lacks = by (is_same q k) refl
  where
    by : (b : Bool) → is_same q k ≡ b → (b || done q) ≡ true
    by true same = refl
    by false other = covers q (ap (is_listed q) first ∙ ap (λ b. b || is_listed q rest) other ∙ lacks)

-- of the folders that were there, those that the paths so far leave are gone
pub record Leaving (Was : List ℕ → Type 0) (L : List ℕ → List ℕ → Type 0) (work : FileMap) (held : Folders) (rest : List (List ℕ)) : Type 0 where
  pub done : List ℕ → Bool
  pub covers : (q : List ℕ) → is_listed q rest ≡ false → done q ≡ true
  pub folders : AreFolders work held (λ d. Was d × ((q : List ℕ) → done q ≡ true → L q d → ⊥))

module _ (Was : Those) (L : List ℕ → Those) where
  abbrev Still : (List ℕ → Bool) → Those
  Still done d = Was d × ((q : List ℕ) → done q ≡ true → L q d → ⊥)

  pub leaving_start : (work : FileMap) (held : Folders) (rest : List (List ℕ)) → ((q : List ℕ) → is_listed q rest ≡ false → (d : List ℕ) → L q d → ⊥) → AreFolders work held Was → Leaving Was L work held rest
  leaving_start work held rest free are = record {
    done = λ q. not (is_listed q rest);
    covers = λ q lacks. ap not lacks;
    folders = are_same work held Was (λ d. Was d × ((q : List ℕ) → not (is_listed q rest) ≡ true → L q d → ⊥)) are (λ d is. (is, λ q out l. free q (unnot (is_listed q rest) out) d l)) (λ d is. is.0);
  }

  pub leaving_more : (mid now : FileMap) (held new : Folders) (before rest : List (List ℕ)) (k : List ℕ) → before ≡ k ∷ rest → ((r : List ℕ) → IsSome (get mid r) → IsSome (get now r) ⊎ ((d : List ℕ) → IsAbove d r → L k d)) → ((d e : List ℕ) → IsAtOrIn d e → L k e → L k d)
      → AreFolders now new (λ d. IsFolder mid held d × (L k d → ⊥)) → Leaving Was L mid held before → Leaving Was L now new rest
  leaving_more mid now held new before rest k first lost up step so = record {
    done = λ q. is_same q k || so.done q;
    covers = covered so.done before rest k first so.covers;
    folders = are_same now new (λ d. Still so.done d × (L k d → ⊥)) (λ d. Was d × ((q : List ℕ) → (is_same q k || so.done q) ≡ true → L q d → ⊥))
        (less mid now held new (Still so.done) (L k) lost up so.folders step)
        (λ d is. (is.0.0, λ q e l. after d is.0.1 is.1 q l (same_or_before q k (so.done q) e)))
        (λ d is. ((is.0, λ q e l. is.1 q (ap (λ b. is_same q k || b) e ∙ or-true (is_same q k)) l), λ l. is.1 k (ap (λ b. b || so.done k) (is_eq-same k)) l));
  }
    where
      after : (d : List ℕ) → ((q : List ℕ) → so.done q ≡ true → L q d → ⊥) → (L k d → ⊥) → (q : List ℕ) → L q d → (q ≡ k) ⊎ (so.done q ≡ true) → ⊥
      after d never now_never q l (inl same) = now_never (subst (λ (p : List ℕ). L p d) same l)
      after d never now_never q l (inr e) = never q e l

  pub leaving_ends : (work : FileMap) (held : Folders) (rest : List (List ℕ)) → rest ≡ [] → Leaving Was L work held rest → AreFolders work held (λ d. Was d × (((q : List ℕ) × L q d) → ⊥))
  leaving_ends work held rest none so = are_same work held (λ d. Was d × ((q : List ℕ) → so.done q ≡ true → L q d → ⊥)) (λ d. Was d × (((q : List ℕ) × L q d) → ⊥)) so.folders
      (λ d is. (is.0, λ l. is.1 l.0 (so.covers l.0 (ap (is_listed l.0) none)) l.1))
      (λ d is. (is.0, λ q e l. is.1 (q, l)))
