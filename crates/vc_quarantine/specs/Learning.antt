-- What is learnt of the generations of commits, so that a later check of a branch with their history can stop at them.
use Rattle.std.specs.Prelude.{◌≡◌, ◌↔◌, ◌⊎◌, ◌<◌, ◌^◌, [], ℕ, List, Some, None, Vec, Contains}
use Rattle.std.specs.Global.{Global}
use Rattle.vc_history.specs.Generation.{HasGeneration}
use Rattle.vc_object_map.specs.History.{IsAncestor}
use Rattle.vc_history.specs.Numbering.{numbers}
use Rattle.vc_history.specs.declared.generations.Generations.{Generations}
use Rattle.vc_files.specs.FileMap.{FileMap}
use Rattle.vc_object_map.specs.Graph.{IsClosed}
use Rattle.vc_object.specs.ObjectMap.{parents_in}
use Rattle.vc_object.specs.declared.id.ObjectId.{ObjectId}
use Rattle.vc_object_map.specs.Store.{objects}

-- the generations that are known, and the commits whose histories are learnt before the next check
pub record Learnt : Type 0 where
  pub generations : Generations
  pub due : List ObjectId

abbrev pub learnt_in : Generations → Vec ObjectId Global → Learnt
learnt_in generations due = record { generations = generations; due = due.items }

-- no generation is known, and no history is due
pub record IsNothing (learnt : Learnt) : Type 0 where
  pub none : (id : ObjectId) → numbers learnt.generations id ≡ None
  pub due : learnt.due ≡ []

-- each commit that had a number has the same one then
abbrev pub KeepsNumbers : Generations → Generations → Type 0
KeepsNumbers known now = (x : ObjectId) (n : ℕ) → numbers known x ≡ Some n → numbers now x ≡ Some n

-- x is an ancestor of one of these commits of which the whole history is stored, and n is its generation, which 64 bits hold
pub record IsOfWhole (content : FileMap) (tips : List ObjectId) (x : ObjectId) (n : ℕ) : Type 0 where
  pub tip : ObjectId
  pub is_tip : Contains tips tip
  pub whole : IsClosed (parents_in (objects content)) tip
  pub ancestor : IsAncestor (parents_in (objects content)) x tip
  pub generation : HasGeneration (parents_in (objects content)) x n
  pub fits : n < 2 ^ 64

-- what is known then is what was known before, and the generations in the whole histories of these commits
abbrev pub IsLearnt : FileMap → List ObjectId → Generations → Generations → Type 0
IsLearnt content tips known now = (x : ObjectId) (n : ℕ) → numbers now x ≡ Some n ↔ ((numbers known x ≡ Some n) ⊎ IsOfWhole content tips x n)
