-- What is refused as an answer is, and what clean files are not refused for.
use Rattle.std.proofs.Common.{◌≡◌, inl, inr, ℕ, List, Option, Some, None, Result, refl, sym, ap, ◌∙◌}
use Rattle.std.specs.Prelude.{IfErr, IsErrAnd, codes, option_and_then, option_map}
use Rattle.std.specs.FinMap.{get}
use Rattle.std.proofs.lemmas.Option.{none-some, same_Some}
use Rattle.vc_pack.specs.AnswerFault.{BlamesRefs, from_refs}
use Rattle.vc_pack.specs.declared.fault.AnswerFault.{AnswerFault}
use Rattle.vc_files.specs.FileMap.{FileMap}
use Rattle.vc_local.proofs.FaultLemmas.{err_as}
use Rattle.vc_local.specs.Clean.{IsClean}
use Rattle.vc_refs.specs.Head.{IsBadHead, IsHeadLoop, head_of, read_head, said}
use Rattle.vc_refs.specs.RefFault.{BlamesHeadValue}
use Rattle.vc_refs.specs.Refs.{SpellsRefs}
use Rattle.vc_refs.specs.declared.faults.RefFault.{RefFault}
use Rattle.vc_refs.specs.declared.faults.RefFault.TheVariants as ref
use Rattle.vc_refs.specs.declared.heads.Head.{Head}
use Rattle.vc_shared.specs.Faults.{of_answer}
use Rattle.vc_shared.specs.Serving.{IsRefusedList}
use Rattle.vc_shared.specs.declared.fault.SharedFault.{SharedFault}

-- ---- what is refused
pub refuses : {T : Type 0} (Blames : AnswerFault → Type 0) (f : AnswerFault) (q : Result T SharedFault) → IsErrAnd q (λ e. e ≡ of_answer f) → Blames f
    → IfErr q (λ e. (g : AnswerFault) × (e ≡ of_answer g) × Blames g)
refuses Blames f q is why = err_as (λ e. (g : AnswerFault) × (e ≡ of_answer g) × Blames g) (of_answer f) q is (f, refl, why)

-- where each file of the refs can be read, a look at HEAD's ref is refused for HEAD's own file alone
pub head_blames : (content : FileMap) → SpellsRefs content → (e : RefFault) → BlamesHeadValue content e → IsRefusedList content (from_refs e)
head_blames content spells (ref.Stale current) b = absurd b
head_blames content spells (ref.Conflict other) b = absurd b
head_blames content spells (ref.BadRefFile path) b = elim b [ inl head ↦ inr head | inr named ↦ absurd (spells _ named.3) ]
head_blames content spells ref.HeadLoop b = b
head_blames content spells (ref.Fault f) b = tt

-- ---- clean files with a HEAD are not to blame
-- a file that says nothing says no HEAD
no_fault : {H : Type 0} (says : H → Option Head) (read : List ℕ → H) (bad : H) (at : Head) (file : Option (List ℕ)) → option_and_then (λ text. says (read text)) file ≡ Some at → option_map read file ≡ Some bad → says bad ≡ None → ⊥
no_fault says read bad at None is e none = none-some at is
no_fault says read bad at (Some text) is e none = none-some at (sym none ∙ ap says (sym (same_Some (read text) bad e)) ∙ is)

module _ (content : FileMap) where
  no_bad_head : (at : Head) → head_of content ≡ Some at → IsBadHead content → ⊥
  unfolding head_of
  no_bad_head at is bad = no_fault said read_head _ at (get content (codes "HEAD")) is bad refl

  no_head_loop : (at : Head) → head_of content ≡ Some at → IsHeadLoop content → ⊥
  unfolding head_of
  no_head_loop at is loop = no_fault said read_head _ at (get content (codes "HEAD")) is loop refl

  pub no_blame : IsClean content → (at : Head) → head_of content ≡ Some at → (e : RefFault) → BlamesRefs content e → ⊥
  no_blame clean at is (ref.Stale current) why = why
  no_blame clean at is (ref.Conflict name) why = why
  no_blame clean at is (ref.BadRefFile path) (inl first) = clean.refs _ first.bad
  no_blame clean at is (ref.BadRefFile path) (inr (same, bad)) = no_bad_head at is bad
  no_blame clean at is ref.HeadLoop why = no_head_loop at is why
  no_blame clean at is (ref.Fault g) why = why
