-- What refuses a commit, from what its calls tell.
use Rattle.std.proofs.Common.{◌≡◌, ◌||◌, inl, inr, ℕ, Bool, false, List, ◌∷◌, ◌++◌, map, Option, Some, None, true, nat_eq, refl, sym, ap, ◌∙◌, subst, []}
use Rattle.std.specs.Prelude.{option_map, option_and_then, option_to_list, unwrap_or, is_some, string_bytes, codes, ◌&&◌}
use Rattle.std.specs.List.{AllByRecursion, starts_with}
use Rattle.std.proofs.lemmas.Bool.{and_parts, or_right}
use Rattle.std.proofs.lemmas.Option.{none-some}
use Rattle.std.specs.FinMap.{get}
use Rattle.vc_files.specs.FileMap.{FileMap, SameOutside}
use Rattle.vc_format.specs.Git.{bytes_of_id, id_of_bytes}
use Rattle.vc_index.proofs.PartLemmas.{map_join}
use Rattle.vc_model.specs.Clone.{IsGoodCommit, IsHeadFree, IsFreeHead as IsMachineFree}
use Rattle.vc_model.specs.CloneCall.{CommitsOr, new_commit, parents_with}
use Rattle.vc_model.specs.Object.{Id, stored}
use Rattle.vc_model.specs.Refs.{Head as MachineHead}
use Rattle.vc_model.specs.Refs.Head.{OnBranch, Detached}
use Rattle.vc_model.specs.Repository.{Repository}
use Rattle.vc_model.specs.Shared.{head_value as machine_value}
use Rattle.vc_object.specs.declared.id.ObjectId.{ObjectId}
use Rattle.vc_refs.specs.Head.{IsBadHead, IsHeadLoop, head_of, head_value, read_head, said}
use Rattle.vc_refs.specs.Refs.{is_taken, packed_at, packed_map, packed_path, refs, IsBadRef}
use Rattle.vc_refs.specs.Obstacle.{is_held, IsFree as IsFreeName}
use Rattle.vc_refs.specs.RefFault.{BlamesHead, BlamesHeadValue, IsGoodHead}
use Rattle.vc_refs.specs.declared.faults.RefFault.{RefFault}
use Rattle.vc_refs.specs.declared.faults.RefFault.TheVariants as ref
use Rattle.vc_refs.specs.declared.heads.Head.{Head}
use Rattle.vc_refs.specs.declared.heads.Head.TheVariants as heads
use Rattle.vc_push_rules.proofs.FrameLemmas.{ref_no_object}
use Rattle.vc_push_rules.specs.Known.{AreRefsWhole}
use Rattle.vc_quarantine.proofs.CleanLemmas.{bad_no_object}
use Rattle.vc_object_map.specs.declared.faults.StoreFault.TheVariants as store
use Rattle.vc_local.specs.Blames.{BlamesName, BlamesPut, IsOfMemory}
use Rattle.vc_local.specs.Commit.{IsGoodParent, IsFreeHead, made_body, parents_of_commit}
use Rattle.vc_rules.specs.Git.{git}
use Rattle.vc_local.specs.Machine.{machine_head, Spells}
use Rattle.vc_local.specs.Making.{IsOfLook, BlamesLook, BlamesMoving, BlamesParents, HasHeadConflict}
use Rattle.vc_local.specs.Shown.{shown}
use Rattle.vc_local.specs.declared.fault.NodeFault.{NodeFault}
use Rattle.vc_local.specs.declared.fault.NodeFault.TheVariants.{Store, Ref, Missing, NotACommit, BadPath, PathConflict, BadIndex, WrongEntry, Down}
use Rattle.vc_refs.proofs.LayeredLemmas.{bad-same, packed_map-same}
use Rattle.vc_local.proofs.BranchLemmas.{closed, good_here, not_closed, history, not_history, free_from, not_free}

-- ---- a look at HEAD

none_said : {T : Type 0} (read : List ℕ → T) (says : T → Option Head) (found : Option (List ℕ)) (text : T) → option_map read found ≡ Some text → says text ≡ None → option_and_then (λ t. says (read t)) found ≡ None
none_said read says None text e none = cc
none_said read says (Some t) text e none = let same : read t ≡ text = cc in ap says same ∙ none

bad_head : (content : FileMap) → IsBadHead content → head_of content ≡ None
unfolding head_of
bad_head content bad = none_said read_head said (get content (codes "HEAD")) _ bad refl

looped_head : (content : FileMap) → IsHeadLoop content → head_of content ≡ None
unfolding head_of
looped_head content loop = none_said read_head said (get content (codes "HEAD")) _ loop refl

-- where a HEAD is shown, there is one
pub no_head : (content : FileMap) (head : Head) → head_of content ≡ Some head → head_of content ≡ None → ⊥
no_head content head some none = none-some head (sym none ∙ some)

pub good_head : (content : FileMap) (head : Head) → head_of content ≡ Some head → IsGoodHead content
good_head content head some = record { good = λ bad. no_head content head some (bad_head content bad); ends = λ loop. no_head content head some (looped_head content loop) }

pub of_head : (content : FileMap) (e : RefFault) → BlamesHead content e → IsOfLook content e
of_head content (ref.Stale current) blames = absurd blames
of_head content (ref.Conflict other) blames = absurd blames
of_head content (ref.BadRefFile path) blames = inl (bad_head content blames.1)
of_head content ref.HeadLoop blames = looped_head content blames
of_head content (ref.Fault fault) blames = tt

pub of_head_value : (content : FileMap) (e : RefFault) → BlamesHeadValue content e → IsOfLook content e
of_head_value content (ref.Stale current) blames = absurd blames
of_head_value content (ref.Conflict other) blames = absurd blames
of_head_value content (ref.BadRefFile path) blames = elim blames [ inl head ↦ inl (bad_head content head.1) | inr named ↦ inr named.3 ]
of_head_value content ref.HeadLoop blames = looped_head content blames
of_head_value content (ref.Fault fault) blames = tt

-- ---- a commit's refusals, as the machine has them

pub same_ids : (ids : List ObjectId) → map id_of_bytes (map bytes_of_id ids) ≡ ids
same_ids [] = refl
same_ids (id ∷ ids) = ap (λ (more : List ObjectId). id ∷ more) (same_ids ids)

module _ (content : FileMap) (r : Repository) (p : Spells (shown content) r) (whole : AreRefsWhole content) where
  -- one of them is declined, or the rest is asked
  pub parents_missing : (rest : Type 0) (absent : ObjectId) (ids : List ObjectId) → BlamesParents content ids (Missing absent) → CommitsOr git (stored r.objects) (map bytes_of_id ids) 40 rest
  parents_missing rest absent [] blames = absurd blames
  parents_missing rest absent (id ∷ ids) (inl blames) = inl (not_closed content r p id (blames whole), refl)
  parents_missing rest absent (id ∷ ids) (inr later) = inr (closed content r p id (later.0 whole).0, inr (history content r p id (later.0 whole).1, parents_missing rest absent ids later.1))

  pub parents_other : (rest : Type 0) (other : ObjectId) (ids : List ObjectId) → BlamesParents content ids (NotACommit other) → CommitsOr git (stored r.objects) (map bytes_of_id ids) 41 rest
  parents_other rest other [] blames = absurd blames
  parents_other rest other (id ∷ ids) (inl blames) = inr (closed content r p id (blames whole).0, inl (not_history content r p id (blames whole).1, refl))
  parents_other rest other (id ∷ ids) (inr later) = inr (closed content r p id (later.0 whole).0, inr (history content r p id (later.0 whole).1, parents_other rest other ids later.1))

  pub parents_pass : (n : ℕ) (rest : Type 0) (ids : List ObjectId) → AllByRecursion (IsGoodParent content) ids → rest → CommitsOr git (stored r.objects) (map bytes_of_id ids) n rest
  parents_pass n rest [] all then = then
  parents_pass n rest (id ∷ ids) all then = inr (closed content r p id (all.0 whole).0, inr (history content r p id (all.0 whole).1, parents_pass n rest ids all.1 then))

  pub parents_good : (ids : List ObjectId) → AllByRecursion (IsGoodParent content) ids → AllByRecursion (IsGoodCommit git (stored r.objects)) (map bytes_of_id ids)
  parents_good [] all = tt
  parents_good (id ∷ ids) all = (good_here content r p id all.0 whole, parents_good ids all.1)

module _ (content : FileMap) (r : Repository) (p : Spells (shown content) r) where
  -- HEAD is the machine's
  pub same_head : (head : Head) → head_of content ≡ Some head → head ≡ p.head
  same_head head is = ap (λ (found : Option Head). unwrap_or found head) (sym is ∙ p.head_shown)

  free_by : (head : Head) → IsFreeHead content head → IsMachineFree r.refs (machine_head head)
  free_by (heads.Branch name) free = free_from content r name p free
  free_by (heads.Id id) free = tt

  pub head_free : (head : Head) → head_of content ≡ Some head → IsFreeHead content head → IsHeadFree r
  head_free head is free =
      subst (IsMachineFree r.refs) (sym p.head_is) (free_by p.head (subst (IsFreeHead content) (same_head head is) free))

  pub head_not_free : (e : NodeFault) → HasHeadConflict content e → ¬ IsHeadFree r
  head_not_free e h free =
      not_free content r h.name h.other p h.first.here.conflict h.there
      (subst (IsMachineFree r.refs) (p.head_is ∙ ap machine_head (sym (same_head (heads.Branch h.name) h.head))) free)

  -- so are the parents of the commit
  value_by : (head : Head) → map id_of_bytes (option_to_list (elim (machine_head head) [ OnBranch b ↦ get r.refs b | Detached x ↦ Some x ])) ≡ option_to_list (head_value (refs content) (Some head))
  value_by (heads.Branch name) = listed (get r.refs name) ∙ ap option_to_list (sym (p.refs name))
    where
      listed : (found : Option Id) → map id_of_bytes (option_to_list found) ≡ option_to_list (option_map id_of_bytes found)
      listed None = refl
      listed (Some x) = refl
  value_by (heads.Id id) = refl

  pub same_parents : (extra : List ObjectId) → map id_of_bytes (parents_with r (map bytes_of_id extra)) ≡ parents_of_commit content extra
  same_parents extra =
      map_join id_of_bytes (option_to_list (machine_value r)) (map bytes_of_id extra)
      ∙ (λ i. (ap (λ (h : MachineHead). map id_of_bytes (option_to_list (elim h [ OnBranch b ↦ get r.refs b | Detached x ↦ Some x ]))) p.head_is ∙ value_by p.head ∙ ap (λ (found : Option Head). option_to_list (head_value (refs content) found)) (sym p.head_shown)) i
      ++ same_ids extra i)

  -- its body is the one that is made
  pub same_body : (tree : ObjectId) (extra : List ObjectId) (author committer message : List ℕ)
      → (new_commit git r tree.0 (map bytes_of_id extra) author committer message).body ≡ made_body tree (parents_of_commit content extra) author committer message
  same_body tree extra author committer message = ap (λ (ps : List ObjectId). made_body tree ps author committer message) (same_parents extra)

-- ---- HEAD is not moved, after objects alone were stored

module _ (old new : FileMap) (outside : SameOutside (codes "objects/") old new) where
  taken_before : (path : List ℕ) → is_taken new path ≡ true → is_taken old path ≡ true
  taken_before path taken =
      let inside : starts_with nat_eq path (codes "refs/") ≡ true = (and_parts (starts_with nat_eq path (codes "refs/")) (is_some (get new path)) taken).0 in
      ap (λ (found : Option (List ℕ)). starts_with nat_eq path (codes "refs/") && is_some found) (sym (outside.at path (ref_no_object path inside))) ∙ taken

  -- what is held then was so before
  pub held_before : (path : List ℕ) → is_held new path ≡ true → is_held old path ≡ true
  held_before path held = by (is_taken new path) refl held
    where
      packed : packed_at (packed_map new) path ≡ packed_at (packed_map old) path
      packed = ap (λ m. packed_at m path) (packed_map-same old new (outside.at packed_path refl))

      by : (b : Bool) → is_taken new path ≡ b → (b || is_some (packed_at (packed_map new) path)) ≡ true → is_held old path ≡ true
      by true taken h = ap (λ b. b || is_some (packed_at (packed_map old) path)) (taken_before path taken)
      by false free h = or_right (is_taken old path) _ (ap is_some (sym packed) ∙ h)

  bad_before : (path : List ℕ) → IsBadRef new path → IsBadRef old path
  bad_before path bad = bad-same old new path (outside.at path (bad_no_object new path bad)) bad

  name_blamed : (name : List ℕ) → IsFreeName old name → (f : RefFault) → BlamesName new name f → IsOfLook old f
  name_blamed name free (ref.Stale current) blames = absurd blames
  name_blamed name free (ref.Conflict other) blames = absurd (free.none other (record { held = held_before other blames.1.here.held; conflict = blames.1.here.conflict }))
  name_blamed name free (ref.BadRefFile path) blames = elim blames [
    | inl way ↦ inr (bad_before (string_bytes path) (elim way [ inl packed ↦ inr packed | inr first ↦ inl first.1 ]))
    | inr own ↦ inr (bad_before (string_bytes path) own.1)
  ]
  name_blamed name free ref.HeadLoop blames = absurd blames
  name_blamed name free (ref.Fault fault) blames = tt

  put_blamed : (name : List ℕ) → IsFreeName old name → (e : NodeFault) → BlamesPut new name e → BlamesLook old e
  put_blamed name free (Ref f) blames = name_blamed name free f blames
  put_blamed name free (Store f) blames = absurd blames
  put_blamed name free (Missing id) blames = absurd blames
  put_blamed name free (NotACommit id) blames = absurd blames
  put_blamed name free BadPath blames = absurd blames
  put_blamed name free PathConflict blames = absurd blames
  put_blamed name free (BadIndex place) blames = absurd blames
  put_blamed name free (WrongEntry at) blames = absurd blames
  put_blamed name free Down blames = absurd blames

  memory_look : (e : NodeFault) → IsOfMemory e → BlamesLook old e
  memory_look (Store (store.BadObject f)) blames = absurd blames
  memory_look (Store (store.Absent id)) blames = absurd blames
  memory_look (Store (store.Damaged id)) blames = absurd blames
  memory_look (Store (store.Fault f)) blames = tt
  memory_look (Ref (ref.Stale current)) blames = absurd blames
  memory_look (Ref (ref.Conflict other)) blames = absurd blames
  memory_look (Ref (ref.BadRefFile path)) blames = absurd blames
  memory_look (Ref ref.HeadLoop) blames = absurd blames
  memory_look (Ref (ref.Fault f)) blames = tt
  memory_look (Missing id) blames = absurd blames
  memory_look (NotACommit id) blames = absurd blames
  memory_look BadPath blames = absurd blames
  memory_look PathConflict blames = absurd blames
  memory_look (BadIndex place) blames = absurd blames
  memory_look (WrongEntry at) blames = absurd blames
  memory_look Down blames = absurd blames

  pub moving_blamed : (head : Head) → IsFreeHead old head → (e : NodeFault) → BlamesMoving new head e → BlamesLook old e
  moving_blamed (heads.Branch name) free e blames = put_blamed name free e blames
  moving_blamed (heads.Id id) free e blames = memory_look e blames
