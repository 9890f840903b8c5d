-- Git's branches that a push may set have legal tracking names.
use Rattle.std.proofs.Common.{◌≡◌, ℕ, ◌≤◌, ◌<◌, true, List, [], ◌∷◌, zero, suc, ◌++◌, length, codes, nat_le, nat_lt, refl, arith}
use Rattle.std.proofs.lemmas.Bool.{and_from, and_parts}
use Rattle.std.proofs.lemmas.Str.{IsCharBoundary-after_ascii, IsUtf8-append, IsUtf8-drop, IsUtf8-from_ascii, IsUtf8-from_is_utf8, is_utf8-from_IsUtf8}
use Rattle.std.proofs.lemmas.Bool.Decides.{nat_tests}
use Rattle.std.specs.List.{list_all}
use Rattle.std.specs.Str.{IsAscii, is_utf8}
use Rattle.vc_model.specs.Exchange.{BranchesCanBeTracked}
use Rattle.vc_refname.specs.RefName.{is_ref_name}
use Rattle.vc_refname.proofs.BrokenRules.{is_ref_name-from_legal, legal_from_is_ref_name}
use Rattle.vc_refname.proofs.Tracking.{tracking_legal}
use Rattle.vc_rules.specs.Git.{git}

abbrev branch_text : List ℕ → List ℕ
branch_text b = codes "refs/heads/" ++ b

abbrev tracking_text : List ℕ → List ℕ
tracking_text b = codes "refs/remotes/origin/" ++ b

low : (b : ℕ) → nat_lt b 128 ≡ true → b < 128
low b h = grind (arith, nat_tests)

-- a text of low bytes
from_low : (bs : List ℕ) → list_all (λ b. nat_lt b 128) bs ≡ true → IsAscii bs
from_low [] h i = omega arith
from_low (b ∷ bs) h zero = low b (and_parts (nat_lt b 128) _ h).0
from_low (b ∷ bs) h (suc i) = from_low bs (and_parts (nat_lt b 128) _ h).1 i

still_utf8 : (b : List ℕ) → is_utf8 (branch_text b) ≡ true → is_utf8 (tracking_text b) ≡ true
still_utf8 b h =
    let whole = IsUtf8-from_is_utf8 (branch_text b) h in
    let rest = IsUtf8-drop (branch_text b) 11 whole (IsCharBoundary-after_ascii (branch_text b) 10 whole (omega arith) (omega arith)) in
    is_utf8-from_IsUtf8 (tracking_text b) (IsUtf8-append (codes "refs/remotes/origin/") b (IsUtf8-from_ascii (codes "refs/remotes/origin/") (from_low (codes "refs/remotes/origin/") refl)) rest)

still_named : (b : List ℕ) → is_ref_name (branch_text b) ≡ true → nat_le (length (branch_text b)) 246 ≡ true → is_ref_name (tracking_text b) ≡ true
still_named b h fits =
    let short : length b ≤ 235 = grind (arith, nat_tests) in
    is_ref_name-from_legal (tracking_text b) (tracking_legal b short (legal_from_is_ref_name (branch_text b) h))

pub git_can_be_tracked : BranchesCanBeTracked git
git_can_be_tracked b legal =
    let h = and_parts (is_utf8 (branch_text b)) _ legal in
    let k = and_parts (is_ref_name (branch_text b)) _ h.1 in
    and_from (is_utf8 (tracking_text b)) _ (still_utf8 b h.0) (and_from (is_ref_name (tracking_text b)) _ (still_named b k.0 k.1) refl)
