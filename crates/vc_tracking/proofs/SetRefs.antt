-- Changes that set refs alone leave objects, HEAD and the index, and the moves of refs are such.
use Rattle.std.proofs.Common.{◌≡◌, inl, inr, ℕ, zero, suc, List, [], ◌∷◌, ◌++◌, take, refl, sym, subst}
use Rattle.std.specs.FinMap.{insert}
use Rattle.std.specs.List.{AllByRecursion}
use Rattle.vc_model.specs.Clone.{Moves}
use Rattle.vc_model.specs.Object.{Id}
use Rattle.vc_model.specs.Refs.{RefName, Refs}
use Rattle.vc_model.specs.Repository.{Change, Repository, changed, changed_all}
use Rattle.vc_model.specs.Repository.Change.{RemoveRef, SetHead, SetIndex, SetRefs}
use Rattle.vc_tracking.specs.Moving.{SetsRefs}

pub set_append : (cs ds : List Change) → AllByRecursion SetsRefs cs → AllByRecursion SetsRefs ds → AllByRecursion SetsRefs (cs ++ ds)
set_append [] ds all more = more
set_append (c ∷ cs) ds all more = (all.0, set_append cs ds all.1 more)

pub set_front : (k : ℕ) (cs : List Change) → AllByRecursion SetsRefs cs → AllByRecursion SetsRefs (take k cs)
set_front zero cs all = tt
set_front (suc k) [] all = tt
set_front (suc k) (c ∷ cs) all = (all.0, set_front k cs all.1)

pub moves_set : (may : Refs → RefName → Id → RefName → Type 0) (rs : List (RefName × Id)) (refs : Refs) (cs : List Change) → Moves may refs rs cs → AllByRecursion SetsRefs cs
moves_set may [] refs cs e = subst (AllByRecursion SetsRefs) (sym e) tt
moves_set may (q ∷ qs) refs cs (inl (t, more, m, e, rest)) = subst (AllByRecursion SetsRefs) (sym e) (tt, moves_set may qs (insert refs t q.1) more rest)
moves_set may (q ∷ qs) refs cs (inr (none, rest)) = moves_set may qs refs cs rest

-- ---- what is left
pub set_objects : (cs : List Change) (r : Repository) → AllByRecursion SetsRefs cs → (changed_all cs r).objects ≡ r.objects
set_objects [] r all = refl
set_objects (SetRefs rs ∷ cs) r all = set_objects cs (changed (SetRefs rs) r) all.1
set_objects (RemoveRef n ∷ cs) r all = absurd all.0
set_objects (SetHead h ∷ cs) r all = absurd all.0
set_objects (SetIndex i ∷ cs) r all = absurd all.0

pub set_head : (cs : List Change) (r : Repository) → AllByRecursion SetsRefs cs → (changed_all cs r).head ≡ r.head
set_head [] r all = refl
set_head (SetRefs rs ∷ cs) r all = set_head cs (changed (SetRefs rs) r) all.1
set_head (RemoveRef n ∷ cs) r all = absurd all.0
set_head (SetHead h ∷ cs) r all = absurd all.0
set_head (SetIndex i ∷ cs) r all = absurd all.0

pub set_index : (cs : List Change) (r : Repository) → AllByRecursion SetsRefs cs → (changed_all cs r).index ≡ r.index
set_index [] r all = refl
set_index (SetRefs rs ∷ cs) r all = set_index cs (changed (SetRefs rs) r) all.1
set_index (RemoveRef n ∷ cs) r all = absurd all.0
set_index (SetHead h ∷ cs) r all = absurd all.0
set_index (SetIndex i ∷ cs) r all = absurd all.0
