-- For `settle`: what an index of what the work tree has is, path by path.
use Rattle.std.proofs.Common.{◌≡◌, ℕ, true, false, cond, List, ◌∷◌, Option, Some, None, sym, ap, refl, ◌∙◌, subst, ◌⊎◌, inl, inr}
use Rattle.std.specs.Prelude.{IsSome, option_map}
use Rattle.std.specs.FinMap.{empty, get, get-empty, get-insert, insert}
use Rattle.std.specs.Cmp.Lexicographic.{slice_cmp, nat_list_cmp_total}
use Rattle.std.specs.Ordering.{nat_cmp}
use Rattle.vc_files.specs.FileMap.{FileMap}
use Rattle.vc_object.specs.declared.id.ObjectId.{ObjectId}
use Rattle.vc_index.specs.IndexMap.{HasConflict, IndexMap, IsIndex}
use Rattle.vc_index.specs.Path.{IsAbove}
use Rattle.vc_index.specs.declared.entry.IndexEntry.{IndexEntry}
use Rattle.vc_index.proofs.MapLemmas.{same_text, is_eq-same}
use Rattle.vc_checkout.specs.Settling.{AreSettled, IsNamed, IsSettled, IsSettledAt, Puts, SettlesPath}
use Rattle.vc_checkout.specs.WorkTree.{AreApart}
use Rattle.vc_work_tree.specs.Paths.{blob_name, is_same}
use Rattle.vc_checkout.proofs.ClearLemmas.{Holds, holds_more}

-- ---- one path

-- a path of neither has no entry
pub settled_nothing : (old new : Option IndexEntry) (file : Option ObjectId) (now : Option IndexEntry) → old ≡ None → new ≡ None → now ≡ None → IsSettled old new file now
settled_nothing old new None now o n is = inl (o ∙ sym n, is ∙ sym o)
settled_nothing old new (Some name) now o n is = inr ((λ brought. subst (λ (e : Option IndexEntry). IsNamed e name) n brought.1), is ∙ sym o)

-- what such an entry rests on: it stands in both, or a file is there and it stands in one
abbrev pub Rests : Option IndexEntry → Option IndexEntry → Option ObjectId → Type 0
Rests old new file = (IsSome old × IsSome new) ⊎ (IsSome file × (IsSome old ⊎ IsSome new))

rests : (old new : Option IndexEntry) (file : Option ObjectId) (entry : IndexEntry) → IsSettled old new file (Some entry) → Rests old new file
rests old new None entry (inl (same, is)) = inl (subst IsSome is refl, subst IsSome (is ∙ same) refl)
rests old new None entry (inr (apart, is)) = cc is
rests old new (Some name) entry (inl (brought, is)) = inr (refl, inr (subst IsSome is refl))
rests old new (Some name) entry (inr (never, is)) = inr (refl, inl (subst IsSome is refl))

file_there : (file : Option (List ℕ)) → IsSome (option_map blob_name file) → IsSome file
file_there None some = cc some
file_there (Some bytes) some = refl

-- ---- all paths
module _ (index tree : IndexMap) (work : FileMap) where
  -- where no file lies below another one, no two of these entries do
  never_above : IsIndex index → IsIndex tree → AreApart work → (path other : List ℕ) (entry more : IndexEntry) → IsSettledAt index tree work path (Some entry) → IsSettledAt index tree work other (Some more) → IsAbove path other → ⊥
  never_above is_index is_tree apart path other entry more one two above = by (rests _ _ _ entry one) (rests _ _ _ more two)
    where
      by : Rests (get index path) (get tree path) (option_map blob_name (get work path)) → Rests (get index other) (get tree other) (option_map blob_name (get work other)) → ⊥
      by (inl (i, t)) (inl (j, u)) = is_index.apart path other i j above
      by (inl (i, t)) (inr (f, inl j)) = is_index.apart path other i j above
      by (inl (i, t)) (inr (f, inr u)) = is_tree.apart path other t u above
      by (inr (f, inl i)) (inl (j, u)) = is_index.apart path other i j above
      by (inr (f, inr t)) (inl (j, u)) = is_tree.apart path other t u above
      by (inr (f, x)) (inr (g, y)) = apart path other above (file_there _ f) (file_there _ g)

  never_conflicts : IsIndex index → IsIndex tree → AreApart work → (settled : IndexMap) → AreSettled index tree work settled → (path : List ℕ) (entry : IndexEntry) → IsSettledAt index tree work path (Some entry) → HasConflict settled path → ⊥
  never_conflicts is_index is_tree apart settled are path entry is (other, some, where_is) = found (get settled other) refl some
    where
      by : (more : IndexEntry) → get settled other ≡ Some more → ⊥
      by more at = elim where_is [
        | inl above ↦ never_above is_index is_tree apart other path more entry (are other more at) is above
        | inr below ↦ never_above is_index is_tree apart path other entry more is (are other more at) below
      ]

      found : (e : Option IndexEntry) → get settled other ≡ e → IsSome e → ⊥
      found None at yes' = cc yes'
      found (Some more) at yes' = by more at

  -- what a call of `put` leaves
  pub path_settled : IsIndex index → IsIndex tree → AreApart work → (path : List ℕ) (old new : IndexMap) (now : Option IndexEntry) → AreSettled index tree work old → IsSettledAt index tree work path now
      → Puts now path old new ⊎ ((new ≡ old) × IsSome now × HasConflict old path) → SettlesPath index tree work path old new
  path_settled is_index is_tree apart path old new now are is (inl puts) = (now, is, puts)
  path_settled is_index is_tree apart path old new None are is (inr (same, some, conflict)) = cc some
  path_settled is_index is_tree apart path old new (Some entry) are is (inr (same, some, conflict)) = absurd (never_conflicts is_index is_tree apart old are path entry is conflict)

  got : (m : IndexMap) (path q : List ℕ) (entry : IndexEntry) → get (insert m path entry) q ≡ cond (is_same q path) (Some entry) (get m q)
  got m path q entry = get-insert nat_list_cmp_total m path entry q

  pub still_settled : (path : List ℕ) (old new : IndexMap) (now : Option IndexEntry) → AreSettled index tree work old → IsSettledAt index tree work path now
      → Puts now path old new ⊎ ((new ≡ old) × IsSome now × HasConflict old path) → AreSettled index tree work new
  still_settled path old new now are is (inr (same, some, conflict)) = subst (AreSettled index tree work) (sym same) are
  still_settled path old new None are is (inl same) = subst (AreSettled index tree work) (sym same) are
  still_settled path old new (Some entry) are is (inl puts) = λ q more at. by q more (sym (ap (λ (m : IndexMap). get m q) puts ∙ got old path q entry) ∙ at)
    where
      by : (q : List ℕ) (more : IndexEntry) → cond (is_same q path) (Some entry) (get old q) ≡ Some more → IsSettledAt index tree work q (Some more)
      by q more at = elim (is_same q path) as (λ b. is_same q path ≡ b → cond b (Some entry) (get old q) ≡ Some more → IsSettledAt index tree work q (Some more)) [
        | true ↦ λ same here. subst (λ (p : List ℕ). IsSettledAt index tree work p (Some more)) (sym (same_text q path same)) (subst (IsSettledAt index tree work path) here is)
        | false ↦ λ other there. are q more there
      ] refl at

  -- one path more is settled
  pub settled_more : (path : List ℕ) (old new : IndexMap) (before rest : List (List ℕ)) → before ≡ path ∷ rest → AreSettled index tree work old → SettlesPath index tree work path old new
      → Holds (λ q. IsSettledAt index tree work q (get old q)) before → Holds (λ q. IsSettledAt index tree work q (get new q)) rest
  settled_more path old new before rest first are (None, is, puts) so =
      holds_more (λ q. IsSettledAt index tree work q (get new q)) before rest path first (subst (λ (m : IndexMap). IsSettledAt index tree work path (get m path)) (sym puts) (nothing (get old path) refl)) (record { at = λ q lacks. subst (λ (m : IndexMap). IsSettledAt index tree work q (get m q)) (sym puts) (so.at q lacks) })
    where
      nothing : (e : Option IndexEntry) → get old path ≡ e → IsSettledAt index tree work path (get old path)
      nothing None at = subst (IsSettledAt index tree work path) (sym at) is
      nothing (Some entry) at = subst (IsSettledAt index tree work path) (sym at) (are path entry at)
  settled_more path old new before rest first are (Some entry, is, puts) so =
      holds_more (λ q. IsSettledAt index tree work q (get new q)) before rest path first (subst (IsSettledAt index tree work path) (sym here) is) (record { at = λ q lacks. by q (so.at q lacks) })
    where
      here : get new path ≡ Some entry
      here = ap (λ (m : IndexMap). get m path) puts ∙ got old path path entry ∙ ap (λ b. cond b (Some entry) (get old path)) (is_eq-same path)

      by : (q : List ℕ) → IsSettledAt index tree work q (get old q) → IsSettledAt index tree work q (get new q)
      by q so = elim (is_same q path) as (λ b. is_same q path ≡ b → IsSettledAt index tree work q (get new q)) [
        | true ↦ λ same. subst (λ (p : List ℕ). IsSettledAt index tree work p (get new p)) (sym (same_text q path same)) (subst (IsSettledAt index tree work path) (sym here) is)
        | false ↦ λ other. subst (IsSettledAt index tree work q) (sym (ap (λ (m : IndexMap). get m q) puts ∙ got old path q entry ∙ ap (λ b. cond b (Some entry) (get old q)) other)) so
      ] refl

  -- an index with no files
  pub settled_none : (m : IndexMap) → m ≡ empty → AreSettled index tree work m
  settled_none m none = λ q entry at. absurd (never entry (sym (ap (λ (n : IndexMap). get n q) none ∙ get-empty (slice_cmp nat_cmp) q) ∙ at))
    where
      never : (entry : IndexEntry) → None ≡ Some entry → ⊥
      never entry e = cc e

  pub settled_elsewhere : (m : IndexMap) → m ≡ empty → (q : List ℕ) → get index q ≡ None → get tree q ≡ None → IsSettledAt index tree work q (get m q)
  settled_elsewhere m none q no_index no_tree = settled_nothing (get index q) (get tree q) _ (get m q) no_index no_tree (ap (λ (n : IndexMap). get n q) none ∙ get-empty (slice_cmp nat_cmp) q)
