-- Refs and a HEAD that files show have legal names.
use Rattle.std.proofs.Common.{◌≡◌, ℕ, Bool, true, cond, List, Some, nat_eq, refl, ap, ◌∙◌}
use Rattle.std.specs.Prelude.{codes}
use Rattle.std.specs.List.{starts_with}
use Rattle.std.proofs.lemmas.Bool.{and_parts}
use Rattle.std.proofs.lemmas.Slice.Eq.{bytes_eq-Decides}
use Rattle.vc_files.specs.FileMap.{FileMap}
use Rattle.vc_object.specs.declared.id.ObjectId.{ObjectId}
use Rattle.vc_refname.specs.RefName.{is_ref_name}
use Rattle.vc_refs.specs.Head.{head_of}
use Rattle.vc_refs.specs.RefMap.{RefMap, is_ref, with_ref}
use Rattle.vc_refs.specs.Refs.{refs}
use Rattle.vc_refs.specs.declared.heads.Head.TheVariants as heads
use Rattle.vc_refs.proofs.HeadLemmas.{head_of-legal}
use Rattle.vc_refs.proofs.LayeredLemmas.{ref_legal}
use Rattle.vc_local.specs.Shown.{Shown, shown, with_refs_shown}

pub legal_of : (name : List ℕ) → is_ref name ≡ true → is_ref_name name ≡ true
legal_of name h = (and_parts (is_ref_name name) (starts_with nat_eq name (codes "refs/")) h).0

pub with_ref_same : (r : RefMap) (name : List ℕ) (id : ObjectId) → with_ref r name id name ≡ Some id
unfolding with_ref
with_ref_same r name id = ap (λ (b : Bool). cond b (Some id) (r name)) ((bytes_eq-Decides name name).1 refl)

-- a ref that was set
pub set_named : (old new : FileMap) (name : List ℕ) (id : ObjectId) → shown new ≡ with_refs_shown (shown old) (with_ref (refs old) name id) → is_ref_name name ≡ true
set_named old new name id is = legal_of name (ref_legal new name id (ap (λ (s : Shown). s.refs name) is ∙ with_ref_same (refs old) name id))

-- a branch that HEAD names
pub head_named : (content : FileMap) (name : List ℕ) → head_of content ≡ Some (heads.Branch name) → is_ref_name name ≡ true
head_named content name is = legal_of name (head_of-legal content (heads.Branch name) is)
