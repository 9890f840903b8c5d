-- Which names of refs are read, and that a branch's is one.
use Rattle.std.proofs.Common.{rules, ◌≡◌, ◌++◌, ℕ, List, Bool, Option, Some, None, true, false, refl, subst, IfSome}
use Rattle.std.specs.Prelude.{codes, if◌then◌else◌}
use Rattle.std.specs.Str.{is_utf8}
use Rattle.vc_events.specs.Events.{IsBranch}
use Rattle.vc_refname.proofs.BrokenRules.{is_ref_name-from_legal}
use Rattle.vc_refname.specs.RefName.{IsRefName}
use Rattle.vc_script.specs.Words.{name_in}

pub name_in-bad : (text : List ℕ) → is_utf8 text ≡ false → name_in text ≡ None
unfolding name_in
name_in-bad text e = rw e refl

pub name_in-legal : (text : List ℕ) → is_utf8 text ≡ true → IsRefName text → name_in text ≡ Some text
unfolding name_in
name_in-legal text utf8 legal = rw (utf8, is_ref_name-from_legal text legal) refl

found_is : (b : Bool) (text name : List ℕ) → Some name ≡ (if b then Some text else None) → text ≡ name
found_is true text name e = search (rules, e)
found_is false text name e = absurd (search (rules, e))

name_in-same : (text name : List ℕ) → Some name ≡ name_in text → text ≡ name
unfolding name_in
name_in-same text name e = found_is _ text name e

-- the name of a branch is one
pub branch_name : (word : List ℕ) (found : Option (List ℕ)) → found ≡ name_in (codes "refs/heads/" ++ word) → IfSome found IsBranch
branch_name word None e = tt
branch_name word (Some name) e = subst IsBranch (name_in-same (codes "refs/heads/" ++ word) name e) refl
