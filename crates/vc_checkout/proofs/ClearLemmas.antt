-- What is against a checkout, path by path.
use Rattle.std.proofs.Common.{◌≡◌, ◌≢◌, ℕ, Bool, true, false, ◌||◌, List, ◌∷◌, map, Option, Some, None, sym, ap, refl, ◌∙◌, subst, ◌↔◌, IsTrue, ◌⊎◌, inl, inr, Result, Err, []}
use Rattle.std.specs.Prelude.{Vec, is_some, IfErr}
use Rattle.std.specs.Global.{Global}
use Rattle.std.specs.FinMap.{get}
use Rattle.std.specs.List.{AllByRecursion}
use Rattle.std.specs.List.Sorted.{IsStrictlySortedBy}
use Rattle.std.specs.Ordering.{nat_cmp}
use Rattle.std.specs.Cmp.Lexicographic.{slice_cmp, nat_list_cmp_total}
use Rattle.std.specs.declared.cmp.Ordering.TheVariants.{Less}
use Rattle.vc_files.specs.FileMap.{FileMap}
use Rattle.vc_files.specs.declared.faults.Fault.TheVariants.{Memory}
use Rattle.vc_index.specs.IndexMap.{IndexMap}
use Rattle.vc_index.specs.declared.entry.IndexEntry.{IndexEntry}
use Rattle.vc_index.proofs.MapLemmas.{same_text, no_some}
use Rattle.vc_checkout.specs.Refusal.{IsClear, IsDue, IsHindered, IsInTheWay, IsRefused, RefusedAt}
use Rattle.vc_checkout.specs.WorkTree.{IsUnkept, has_path}
use Rattle.vc_work_tree.specs.Paths.{is_same, is_listed}
use Rattle.vc_checkout.specs.Blobs.{HasDueBlobs}
use Rattle.vc_checkout.specs.Holding.{BlamesPath, HoldsDue, HoldsDueAt, BlamesPathAt}
use Rattle.vc_checkout.specs.CheckoutFault.{IsAgainst, IsFault, IsMemory, IsOfCheckout}
use Rattle.vc_object_map.specs.Store.{objects}
use Rattle.vc_checkout.specs.declared.faults.CheckoutFault.{CheckoutFault}
use Rattle.vc_checkout.specs.declared.faults.CheckoutFault.TheVariants.{LocalChange, InTheWay, NotText, BadPath, Index}
use Rattle.vc_checkout.proofs.PathSetLemmas.{Paths, set_paths}
use Rattle.vc_checkout.proofs.ApplyLemmas.{none_some}

-- ---- one path
module _ (index tree : IndexMap) (work : FileMap) (path : List ℕ) (entry : IndexEntry) (unkept : Paths) (exact : (other : List ℕ) → IsTrue (has_path unkept other) ↔ IsUnkept index work other) where
  pub in_the_way : get tree path ≡ Some entry → get index path ≢ get tree path → IsHindered (λ other. IsTrue (has_path unkept other)) work path entry → IsInTheWay index tree work path
  in_the_way at apart (other, is, how) = (entry, at, apart, (other, (exact other).0 is, how))

  pub not_in_the_way : get tree path ≡ Some entry → (IsHindered (λ other. IsTrue (has_path unkept other)) work path entry → ⊥) → IsInTheWay index tree work path → ⊥
  not_in_the_way at free (found, there, apart, (other, is, how)) =
      free (subst (IsHindered (λ other. IsTrue (has_path unkept other)) work path) (same_some found entry (sym there ∙ at)) (other, (exact other).1 is, how))
    where
      same_some : (x y : IndexEntry) → Some x ≡ Some y → x ≡ y
      same_some x y e = cc e

-- nothing is against a path of neither
pub nothing_due : (old new : Option IndexEntry) → new ≡ None → IsDue old new → ⊥
nothing_due old new none due = no_some new none due.0

pub clear_elsewhere : (index tree : IndexMap) (work : FileMap) (path : List ℕ) → get index path ≡ None → get tree path ≡ None → IsClear index tree work path
clear_elsewhere index tree work path no_index no_tree = record {
  text = λ bad. nothing_due (get index path) (get tree path) no_tree bad.0;
  unchanged = λ change. none_some _ change.entry no_index change.known;
  free = λ way. none_some _ way.0 no_tree way.1;
}

-- ---- all paths
none_before : (before : List ℕ) (rest : List (List ℕ)) → AllByRecursion (λ y. slice_cmp nat_cmp before y ≡ Less) rest → is_listed before rest ≡ false
none_before before [] all = refl
none_before before (y ∷ rest) all = rw (all.0) (none_before before rest all.1)

later : (before k : List ℕ) (rest : List (List ℕ)) → slice_cmp nat_cmp before k ≡ Less → AllByRecursion (λ y. slice_cmp nat_cmp k y ≡ Less) rest → AllByRecursion (λ y. slice_cmp nat_cmp before y ≡ Less) rest
later before k [] less all = tt
later before k (y ∷ rest) less all = (nat_list_cmp_total.trans before k y less all.0, later before k rest less all.1)

-- what comes behind the first of a sorted list
pub sorted_rest : (k : List ℕ) (rest : List (List ℕ)) → IsStrictlySortedBy (slice_cmp nat_cmp) (k ∷ rest) → AllByRecursion (λ y. slice_cmp nat_cmp k y ≡ Less) rest × IsStrictlySortedBy (slice_cmp nat_cmp) rest
unfolding IsStrictlySortedBy
sorted_rest k rest sorted = sorted

pub rest_of : (before rest : List (List ℕ)) (k : List ℕ) → before ≡ k ∷ rest → IsStrictlySortedBy (slice_cmp nat_cmp) before → IsStrictlySortedBy (slice_cmp nat_cmp) rest
rest_of before rest k first sorted = (sorted_rest k rest (subst (IsStrictlySortedBy (slice_cmp nat_cmp)) first sorted)).1

-- a path that is in neither index is not in the set of both
pub elsewhere : (ks : List (Vec ℕ Global)) (all none : Paths) (index tree : IndexMap) → ks ≡ all.keys → ((q : List ℕ) → has_path none q ≡ false)
    → ((q : List ℕ) → has_path all q ≡ ((has_path none q || is_some (get index q)) || is_some (get tree q)))
    → (q : List ℕ) → is_listed q (map (λ k. k.items) ks) ≡ false → (get index q ≡ None) × (get tree q ≡ None)
elsewhere ks all none index tree is empty whole q lacks =
    by_options (get index q) (get tree q) (sym (ap (λ b. (b || is_some (get index q)) || is_some (get tree q)) (empty q)) ∙ sym (whole q) ∙ sym (set_paths ks all is q) ∙ lacks)
  where
    by_options : (i t : Option IndexEntry) → (is_some i || is_some t) ≡ false → (i ≡ None) × (t ≡ None)
    by_options None None e = (refl, refl)
    by_options None (Some t) e = cc e
    by_options (Some i) t e = cc e

-- P holds of each path that is not left
pub record Holds (P : List ℕ → Type 0) (rest : List (List ℕ)) : Type 0 where
  pub at : (q : List ℕ) → is_listed q rest ≡ false → P q

pub holds_more : (P : List ℕ → Type 0) (before rest : List (List ℕ)) (k : List ℕ) → before ≡ k ∷ rest → P k → Holds P before → Holds P rest
holds_more P before rest k first one so = record {
  at = λ q lacks. elim (is_same q k) as (λ b. is_same q k ≡ b → P q) [
    | true ↦ λ same. subst P (sym (same_text q k same)) one
    | false ↦ λ other. so.at q (ap (is_listed q) first ∙ ap (λ b. b || is_listed q rest) other ∙ lacks)
  ] refl;
}

pub holds_all : (P : List ℕ → Type 0) (rest : List (List ℕ)) → rest ≡ [] → Holds P rest → (q : List ℕ) → P q
holds_all P rest none so q = so.at q (ap (is_listed q) none)

-- what holds of each path that is not left holds of each before the first that is
pub holds_before : (P : List ℕ → Type 0) (before rest : List (List ℕ)) (k : List ℕ) → before ≡ k ∷ rest → IsStrictlySortedBy (slice_cmp nat_cmp) before → Holds P before
    → (q : List ℕ) → slice_cmp nat_cmp q k ≡ Less → P q
holds_before P before rest k first sorted so q less =
    let after = (sorted_rest k rest (subst (IsStrictlySortedBy (slice_cmp nat_cmp)) first sorted)).0 in
    so.at q (ap (is_listed q) first ∙ none_before q (k ∷ rest) (less, later q k rest less after))

-- the first path that is refused
pub first_refused : (index tree : IndexMap) (work : FileMap) (before rest : List (List ℕ)) (k : List ℕ) (fault : CheckoutFault) → before ≡ k ∷ rest → IsStrictlySortedBy (slice_cmp nat_cmp) before
    → Holds (IsClear index tree work) before → RefusedAt index tree work k fault → IsRefused index tree work fault
first_refused index tree work before rest k fault first sorted so refused = (k, refused, holds_before (IsClear index tree work) before rest k first sorted so)

-- ---- results
pub if_err : {T : Type 0} (r : Result T CheckoutFault) (e : CheckoutFault) (P : CheckoutFault → Type 0) → r ≡ Err e → P e → IfErr r P
if_err {T} r e P is p = subst (λ (x : Result T CheckoutFault). IfErr x P) (sym is) p

-- ---- why a checkout was refused
no_fault : (e : CheckoutFault) → IsAgainst e → IsFault e → ⊥
no_fault (LocalChange at) against (cause, is) = cc is
no_fault (InTheWay at) against (cause, is) = cc is
no_fault (NotText at) against (cause, is) = cc is
no_fault (BadPath at) against told = absurd against
no_fault (Index fault) against told = absurd against

pub of_check : (honest : Type 0) (can_hold : List ℕ → Bool) (work content : FileMap) (index tree : IndexMap) (e : CheckoutFault) → HoldsDue can_hold index tree → HasDueBlobs (objects content) index tree
    → IsFault e ⊎ IsAgainst e → (honest → IsFault e ⊎ IsRefused index tree work e) → IsOfCheckout honest can_hold work content index tree e
of_check honest can_hold work content index tree e holds blobs (inl fault) told = inl fault
of_check honest can_hold work content index tree e holds blobs (inr against) told = inr (inr (holds, inr (against, blobs, λ h. refused (told h))))
  where
    refused : IsFault e ⊎ IsRefused index tree work e → IsRefused index tree work e
    refused (inl fault) = absurd (no_fault e against fault)
    refused (inr is) = is

pub of_held : (honest : Type 0) (can_hold : List ℕ → Bool) (work content : FileMap) (index tree : IndexMap) (e : CheckoutFault)
    → IsMemory e ⊎ BlamesPath can_hold index tree e → IsOfCheckout honest can_hold work content index tree e
of_held honest can_hold work content index tree e (inl memory) = inl (Memory, memory)
of_held honest can_hold work content index tree e (inr blames) = inr (inl blames)

-- the first path that can't be held
pub first_unheld : (can_hold : List ℕ → Bool) (index tree : IndexMap) (before rest : List (List ℕ)) (k : List ℕ) (fault : CheckoutFault) → before ≡ k ∷ rest → IsStrictlySortedBy (slice_cmp nat_cmp) before
    → Holds (HoldsDueAt can_hold index tree) before → BlamesPathAt can_hold index tree k fault → BlamesPath can_hold index tree fault
first_unheld can_hold index tree before rest k fault first sorted so blames = (k, blames, holds_before (HoldsDueAt can_hold index tree) before rest k first sorted so)
