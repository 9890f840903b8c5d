-- What stored objects are read as.
use Rattle.std.proofs.Common.{◌≡◌, ◌↔◌, ℕ, List, Option, Some, None, IsSome, IfSome, option_map, refl, sym, ap, subst, ◌∙◌}
use Rattle.vc_object.specs.Commit.{IsCommit, commit_bytes}
use Rattle.vc_object.specs.CommitReading.{commit_of, tag_of}
use Rattle.vc_object.specs.CommitView.{commit_view, tag_view}
use Rattle.vc_object.specs.Decoding.{stored_object}
use Rattle.vc_object.specs.Tag.{TagText, IsTag, tag_bytes}
use Rattle.vc_object.specs.declared.commit.Commit.{Commit}
use Rattle.vc_object.specs.declared.tag.Tag.{Tag}
use Rattle.vc_object.specs.declared.kind.Kind.{Kind}
use Rattle.vc_object.specs.declared.kind.Kind.TheVariants as kinds
use Rattle.vc_object.proofs.Commits.{commit_again, tag_again}
use Rattle.vc_rev.specs.Meaning.{commit_in, target_in}

-- a commit that was read is the one that the object is
pub commit_read : (kind : Kind) (body : List ℕ) (r : Option Commit) → IsSome r ↔ (kind ≡ kinds.Commit) → IfSome r (λ c. IsCommit (commit_view c) × (body ≡ commit_bytes (commit_view c))) → option_map commit_view r ≡ commit_in (stored_object kind body)
commit_read kinds.Commit body (Some c) found read = sym (ap commit_of read.1 ∙ commit_again (commit_view c) read.0)
commit_read kinds.Commit body None found read = let e = found.1 refl in absurd (cc e)
commit_read kinds.Blob body (Some c) found read = let e = found.0 refl in absurd (cc e)
commit_read kinds.Blob body None found read = refl
commit_read kinds.Tree body (Some c) found read = let e = found.0 refl in absurd (cc e)
commit_read kinds.Tree body None found read = refl
commit_read kinds.Tag body (Some c) found read = let e = found.0 refl in absurd (cc e)
commit_read kinds.Tag body None found read = refl

pub tag_read : (kind : Kind) (body : List ℕ) (r : Option Tag) → IsSome r ↔ (kind ≡ kinds.Tag) → IfSome r (λ t. IsTag (tag_view t) × (body ≡ tag_bytes (tag_view t))) → option_map (λ (t : Tag). t.object) r ≡ target_in (stored_object kind body)
tag_read kinds.Tag body (Some t) found read = sym (ap (λ (o : Option TagText). option_map (λ (x : TagText). x.object) o) (ap tag_of read.1 ∙ tag_again (tag_view t) read.0))
tag_read kinds.Tag body None found read = let e = found.1 refl in absurd (cc e)
tag_read kinds.Blob body (Some t) found read = let e = found.0 refl in absurd (cc e)
tag_read kinds.Blob body None found read = refl
tag_read kinds.Tree body (Some t) found read = let e = found.0 refl in absurd (cc e)
tag_read kinds.Tree body None found read = refl
tag_read kinds.Commit body (Some t) found read = let e = found.0 refl in absurd (cc e)
tag_read kinds.Commit body None found read = refl

-- what is said of an object's kind and body is said of the same kind and body
pub at_object : (P : Kind → List ℕ → Type 0) (kind other : Kind) (body text : List ℕ) → kind ≡ other → body ≡ text → P kind body → P other text
at_object P kind other body text k b h = subst (λ (t : List ℕ). P other t) b (subst (λ (x : Kind). P x body) k h)
