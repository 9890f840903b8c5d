-- The machine's refusals of a commit, and its faults.
use Rattle.std.proofs.Common.{◌≡◌, ◌⊎◌, inl, inr, ℕ, List, [], ◌∷◌, Some, None, refl, sym, ap, ◌∙◌, subst}
use Rattle.vc_files.specs.FileMap.{FileMap}
use Rattle.vc_index.specs.IndexMap.{IndexMap}
use Rattle.vc_model.specs.Clone.{IsHeadFree}
use Rattle.vc_model.specs.CloneCall.{Refuses}
use Rattle.vc_model.specs.Node.{Answer, Failure}
use Rattle.vc_model.specs.Node.Answer.{Declined, Fault}
use Rattle.vc_model.specs.Repository.{Repository}
use Rattle.vc_model.proofs.OneClone.{apart}
use Rattle.vc_object.specs.ObjectFault.{BodyFault}
use Rattle.vc_object.specs.declared.id.ObjectId.{ObjectId}
use Rattle.vc_object.specs.declared.kind.Kind.TheVariants as kinds
use Rattle.vc_refs.specs.Head.{head_of}
use Rattle.vc_refs.specs.declared.faults.RefFault.TheVariants as ref
use Rattle.vc_push_rules.specs.Known.{AreRefsWhole}
use Rattle.vc_object_map.specs.declared.faults.StoreFault.{StoreFault}
use Rattle.vc_object_map.specs.declared.faults.StoreFault.TheVariants as store
use Rattle.vc_local.specs.Commit.{parents_of_commit}
use Rattle.vc_local.specs.GoodCommit.{BlamesCommit}
use Rattle.vc_local.specs.IndexFile.{SpellsIndex, BlamesIndex}
use Rattle.vc_rules.specs.Git.{git}
use Rattle.vc_values.specs.Faults.{object_number}
use Rattle.vc_values.proofs.GitLaws.{git_rules}
use Rattle.vc_local.specs.Machine.{Spells, FollowsIf, IsBadFile, fault_answer, failure_of}
use Rattle.vc_local.specs.Making.{AreLines, BlamesLook, BlamesParents, BlamesStored, BlamesObjects, BlamesMaking, HasHeadConflict, LeftByCommit, MayCommit}
use Rattle.vc_local.specs.Making.BlamesMaking.{of_lines, of_look, of_conflict, of_parents, of_index, of_objects}
use Rattle.vc_local.specs.Shown.{shown}
use Rattle.vc_local.specs.declared.fault.NodeFault.{NodeFault}
use Rattle.vc_local.specs.declared.fault.NodeFault.TheVariants.{Store, Ref, Missing, NotACommit, BadPath, PathConflict, BadIndex, WrongEntry, Down}
use Rattle.vc_local.proofs.CommitAnswers.{commit_task, body_is, trees_given, too_large, cut_deed}
use Rattle.vc_local.proofs.IndexLemmas.{spells_index, no_bad_index}
use Rattle.vc_local.proofs.RefusalLemmas.{head_free, head_not_free, parents_missing, parents_other, parents_pass}
use Rattle.vc_local.proofs.TreeObjects.{with_trees}
use Rattle.std.specs.FinMap.{empty}

-- one of the parents is blamed
one_blamed : (content : FileMap) (ids : List ObjectId) (e : NodeFault) → BlamesParents content ids e → (id : ObjectId) × BlamesCommit content id e
one_blamed content [] e blames = absurd blames
one_blamed content (id ∷ ids) e (inl here) = (id, here)
one_blamed content (id ∷ ids) e (inr later) = one_blamed content ids e later.1

module _ (content : FileMap) (extra : List ObjectId) (author committer message : List ℕ) where
  abbrev task : Rattle.vc_model.specs.Clone.Task
  task = commit_task content extra author committer message

  -- the machine refuses it with this number, where all is there that refs reach
  Declines : ℕ → Type 0
  Declines n = (r : Repository) → Spells (shown content) r → AreRefsWhole content → Refuses git git_rules r task n

  -- no repository is shown
  IsNone : Type 0
  IsNone = (r : Repository) → Spells (shown content) r → ⊥

  -- what a fault of the call is to the machine
  Outcome : NodeFault → Type 0
  Outcome e = IsBadFile content e ⊎ (((f : Failure) × (fault_answer e ≡ Fault f)) ⊎ (((n : ℕ) × (fault_answer e ≡ Declined n) × Declines n) ⊎ IsNone))

  bad : (e : NodeFault) → IsBadFile content e → Outcome e
  unfolding Outcome
  bad e h = inl h

  failure : (e : NodeFault) (f : Failure) → fault_answer e ≡ Fault f → Outcome e
  unfolding Outcome
  failure e f h = inr (inl (f, h))

  declined : (e : NodeFault) (n : ℕ) → fault_answer e ≡ Declined n → Declines n → Outcome e
  unfolding Outcome
  declined e n is h = inr (inr (inl (n, is, h)))

  nothing : (e : NodeFault) → IsNone → Outcome e
  unfolding Outcome
  nothing e h = inr (inr (inr h))

  no_head : head_of content ≡ None → IsNone
  unfolding IsNone
  no_head none r p = let e : Some p.head ≡ None = sym p.head_shown ∙ none in cc e

  -- ---- one cause after another

  lines_outcome : (e : NodeFault) → e ≡ Store (store.BadObject Rattle.vc_object.specs.declared.fault.ObjectFault.TheVariants.BadCommit) → ¬ AreLines author committer → Outcome e
  unfolding Declines
  lines_outcome e is not = declined e 8 (ap fault_answer is) (λ r p whole. inl (not, refl))

  look_outcome : (e : NodeFault) → BlamesLook content e → Outcome e
  look_outcome (Ref (ref.Stale current)) blames = absurd blames
  look_outcome (Ref (ref.Conflict other)) blames = absurd blames
  look_outcome (Ref (ref.BadRefFile path)) (inl none) = nothing (Ref (ref.BadRefFile path)) (no_head none)
  look_outcome (Ref (ref.BadRefFile path)) (inr file) = bad (Ref (ref.BadRefFile path)) file
  look_outcome (Ref ref.HeadLoop) none = nothing (Ref ref.HeadLoop) (no_head none)
  look_outcome (Ref (ref.Fault f)) blames = failure (Ref (ref.Fault f)) (failure_of f) refl
  look_outcome (Store (store.BadObject f)) blames = absurd blames
  look_outcome (Store (store.Absent id)) blames = absurd blames
  look_outcome (Store (store.Damaged id)) blames = absurd blames
  look_outcome (Store (store.Fault f)) blames = failure (Store (store.Fault f)) (failure_of f) refl
  look_outcome (Missing id) blames = absurd blames
  look_outcome (NotACommit id) blames = absurd blames
  look_outcome BadPath blames = absurd blames
  look_outcome PathConflict blames = absurd blames
  look_outcome (BadIndex place) blames = absurd blames
  look_outcome (WrongEntry at) blames = absurd blames
  look_outcome Down blames = absurd blames

  conflict_outcome : (e : NodeFault) → AreLines author committer → HasHeadConflict content e → Outcome e
  unfolding Declines
  conflict_outcome e lines h = declined e 32 (ap fault_answer h.is) (λ r p whole. inr (lines, inl (head_not_free content r p e h, refl)))

  parents_outcome : (e : NodeFault) → AreLines author committer → ((r : Repository) → Spells (shown content) r → IsHeadFree r) → BlamesParents content extra e → Outcome e
  unfolding Declines
  parents_outcome (Missing id) lines free blames = declined (Missing id) 40 refl (λ r p whole. inr (lines, inr (free r p, parents_missing content r p whole _ id extra blames)))
  parents_outcome (NotACommit id) lines free blames = declined (NotACommit id) 41 refl (λ r p whole. inr (lines, inr (free r p, parents_other content r p whole _ id extra blames)))
  parents_outcome (Store (store.BadObject f)) lines free blames = absurd (one_blamed content extra (Store (store.BadObject f)) blames).1
  parents_outcome (Store (store.Absent id)) lines free blames = absurd (one_blamed content extra (Store (store.Absent id)) blames).1
  parents_outcome (Store (store.Damaged id)) lines free blames = bad (Store (store.Damaged id)) (one_blamed content extra (Store (store.Damaged id)) blames).1
  parents_outcome (Store (store.Fault f)) lines free blames = failure (Store (store.Fault f)) (failure_of f) refl
  parents_outcome (Ref f) lines free blames = absurd (one_blamed content extra (Ref f) blames).1
  parents_outcome BadPath lines free blames = absurd (one_blamed content extra BadPath blames).1
  parents_outcome PathConflict lines free blames = absurd (one_blamed content extra PathConflict blames).1
  parents_outcome (BadIndex place) lines free blames = absurd (one_blamed content extra (BadIndex place) blames).1
  parents_outcome (WrongEntry at) lines free blames = absurd (one_blamed content extra (WrongEntry at) blames).1
  parents_outcome Down lines free blames = absurd (one_blamed content extra Down blames).1

  index_outcome : (e : NodeFault) → BlamesIndex content e → Outcome e
  unfolding IsNone
  index_outcome (BadIndex place) blames = nothing (BadIndex place) (λ r p. no_bad_index content place blames p.map (spells_index content r p))
  index_outcome (Store (store.BadObject f)) blames = absurd blames
  index_outcome (Store (store.Absent id)) blames = absurd blames
  index_outcome (Store (store.Damaged id)) blames = absurd blames
  index_outcome (Store (store.Fault f)) blames = failure (Store (store.Fault f)) (failure_of f) refl
  index_outcome (Ref f) blames = absurd blames
  index_outcome (Missing id) blames = absurd blames
  index_outcome (NotACommit id) blames = absurd blames
  index_outcome BadPath blames = absurd blames
  index_outcome PathConflict blames = absurd blames
  index_outcome (WrongEntry at) blames = absurd blames
  index_outcome Down blames = absurd blames

  stored_outcome : (m : IndexMap) → MayCommit content extra author committer → SpellsIndex content m → (f : StoreFault) → BlamesStored (Unit {0}) content m (parents_of_commit content extra) author committer message f → Outcome (Store f)
  unfolding Declines
  stored_outcome m may s (store.BadObject f) (inl large) = declined (Store (store.BadObject f)) 3 (ap (λ g. Declined (object_number g)) large.0) (λ r p whole.
      inr (may.lines, inr (head_free content r p may.head may.head_is may.free, parents_pass content r p whole 3 _ extra may.parents (inl (too_large content extra author committer message r p m s large.1.entries large.1.first)))))
  stored_outcome m may s (store.BadObject f) (inr made) = declined (Store (store.BadObject f)) (object_number f) refl (λ r p whole.
      let tree = made.0 in
      inr (
        may.lines,
        inr (
          head_free content r p may.head may.head_is may.free,
          parents_pass content r p whole (object_number f) _ extra may.parents
              (inr (
                (with_trees empty made.1.trees, tree.0),
                trees_given content extra author committer message r p m s tree made.1,
                (f, subst (λ (text : List ℕ). BodyFault kinds.Commit text f) (sym (body_is content extra author committer message r p tree)) made.2, refl),
              )),
        ),
      ))
  stored_outcome m may s (store.Absent id) blames = absurd blames
  stored_outcome m may s (store.Damaged id) blames = bad (Store (store.Damaged id)) (blames tt)
  stored_outcome m may s (store.Fault f) blames = failure (Store (store.Fault f)) (failure_of f) refl

  objects_outcome : (m : IndexMap) → MayCommit content extra author committer → SpellsIndex content m → (e : NodeFault) → BlamesObjects (Unit {0}) content m (parents_of_commit content extra) author committer message e → Outcome e
  objects_outcome m may s (Store f) blames = stored_outcome m may s f blames
  objects_outcome m may s (Ref f) blames = absurd blames
  objects_outcome m may s (Missing id) blames = absurd blames
  objects_outcome m may s (NotACommit id) blames = absurd blames
  objects_outcome m may s BadPath blames = absurd blames
  objects_outcome m may s PathConflict blames = absurd blames
  objects_outcome m may s (BadIndex place) blames = absurd blames
  objects_outcome m may s (WrongEntry at) blames = absurd blames
  objects_outcome m may s Down blames = absurd blames

  outcome : (e : NodeFault) → BlamesMaking content extra author committer message e → Outcome e
  outcome e (of_lines h) = lines_outcome e h.0 h.1
  outcome e (of_look h) = look_outcome e h
  outcome e (of_conflict lines h) = conflict_outcome e lines h
  outcome e (of_parents head lines is free h) = parents_outcome e lines (λ r p. head_free content r p head is free) h
  outcome e (of_index h) = index_outcome e h
  outcome e (of_objects m may s h) = objects_outcome m may s e h

  -- ---- the answer

  fault_follows : (new : FileMap) (f : Failure) → LeftByCommit content extra author committer message new → FollowsIf (AreRefsWhole content) task (Fault f) (shown content) (shown new)
  fault_follows new f (inl same) = record { goes = λ awaited r p. (r, subst (λ (m : FileMap). Spells (shown m) r) (sym same) p, λ whole. inr refl) }
  fault_follows new f (inr cut) = record { goes = λ awaited r p. let d = cut_deed content extra author committer message awaited r p new cut in (d.0, d.1, λ whole. inl (d.2 whole)) }

  declined_follows : (new : FileMap) (n : ℕ) → Declines n → LeftByCommit content extra author committer message new → FollowsIf (AreRefsWhole content) task (Declined n) (shown content) (shown new)
  unfolding Declines
  declined_follows new n refuses (inl same) = record { goes = λ awaited r p. (r, subst (λ (m : FileMap). Spells (shown m) r) (sym same) p, λ whole. (refuses r p whole, refl)) }
  declined_follows new n refuses (inr cut) = record {
    goes = λ awaited r p.
        let d = cut_deed content extra author committer message awaited r p new cut in
        (d.0, d.1, λ whole. absurd (apart git git_rules r awaited task n (d.2 whole).0 (refuses r p whole) (d.2 whole).1));
  }

  pub commit_failed : (e : NodeFault) (new : FileMap) → BlamesMaking content extra author committer message e → LeftByCommit content extra author committer message new
      → IsBadFile content e ⊎ FollowsIf (AreRefsWhole content) task (fault_answer e) (shown content) (shown new)
  unfolding Outcome IsNone
  commit_failed e new blames left = elim (outcome e blames) [
    | inl file ↦ inl file
    | inr rest ↦ elim rest [
      | inl fault ↦ inr (subst (λ (a : Answer). FollowsIf (AreRefsWhole content) task a (shown content) (shown new)) (sym fault.1) (fault_follows new fault.0 left))
      | inr later ↦ elim later [
        | inl refusal ↦ inr (subst (λ (a : Answer). FollowsIf (AreRefsWhole content) task a (shown content) (shown new)) (sym refusal.1) (declined_follows new refusal.0 refusal.2 left))
        | inr none ↦ inr (record { goes = λ awaited r p. absurd (none r p) })
      ]
    ]
  ]
