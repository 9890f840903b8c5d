-- Which texts are names of refs: the rules of git-check-ref-format, each said of the whole text.
use Rattle.std.specs.Prelude.{◌≡◌, ℕ, List, [], ◌∷◌, Bool, false, not, ◌||◌, ◌==◌, ◌++◌, nat_lt, nat_eq, length, drop, codes, Option, Some, find, is_none}
use Rattle.std.specs.List.{list_any, slice_split, starts_with, ends_with}
use Rattle.std.specs.Str.{bytes_eq}
use Rattle.vc_refname.specs.declared.fault.NameFault.{NameFault}
use Rattle.vc_refname.specs.declared.fault.NameFault.TheVariants as rules
use Rattle.vc_refname.specs.declared.fault.NewNameError.{NewNameError}
use Rattle.vc_refname.specs.declared.fault.NewNameError.TheVariants.{Refused, Memory}

-- own: the most bytes of a name, and of a branch's, whose tracking name is nine bytes longer
abbrev pub max_name : ℕ
max_name = 255

abbrev pub max_branch : ℕ
max_branch = 246

-- what stands between slashes
abbrev pub components : List ℕ → List (List ℕ)
components text = slice_split (λ byte. byte == 47) text

-- the part stands somewhere in the text
abbrev pub occurs : List ℕ → List ℕ → Bool
occurs part [] = starts_with nat_eq [] part
occurs part (b ∷ bs) = starts_with nat_eq (b ∷ bs) part || occurs part bs

-- below 32, 127, or one of these
abbrev pub is_bad_byte : ℕ → Bool
is_bad_byte byte = nat_lt byte 32 || (byte == 127 || list_any (λ bad. bad == byte) (codes " ~^:?*[\\"))

-- the text breaks the rule
abbrev pub breaks : NameFault → List ℕ → Bool
breaks rules.SingleAt text = bytes_eq text (codes "@")
breaks rules.NoSlash text = not (list_any (λ byte. byte == 47) text)
breaks rules.DotBegin text = list_any (λ part. starts_with nat_eq part (codes ".")) (components text)
breaks rules.LockEnd text = list_any (λ part. ends_with nat_eq part (codes ".lock")) (components text)
breaks rules.TwoDots text = occurs (codes "..") text
breaks rules.BadByte text = list_any is_bad_byte text
breaks rules.AtBrace text = occurs (codes "@{") text
breaks rules.EdgeSlash text = starts_with nat_eq text (codes "/") || ends_with nat_eq text (codes "/")
breaks rules.TwoSlashes text = occurs (codes "//") text
breaks rules.FinalDot text = ends_with nat_eq text (codes ".")
breaks rules.TooLong text = nat_lt max_name (length text)

-- in the order in which they are answered
abbrev pub all_rules : List NameFault
all_rules =
    rules.SingleAt ∷ rules.NoSlash ∷ rules.DotBegin ∷ rules.LockEnd ∷ rules.TwoDots ∷ rules.BadByte ∷ rules.AtBrace
    ∷ rules.EdgeSlash ∷ rules.TwoSlashes ∷ rules.FinalDot ∷ rules.TooLong ∷ []

unfoldable pub first_broken_rule : List ℕ → Option NameFault
first_broken_rule text = find (λ rule. breaks rule text) all_rules

-- whether no rule is broken
abbrev pub is_ref_name : List ℕ → Bool
is_ref_name text = is_none (first_broken_rule text)

-- no rule is broken
abbrev pub IsRefName : List ℕ → Type 0
IsRefName text = (rule : NameFault) → breaks rule text ≡ false

-- a text is refused only by the first rule that it breaks; memory may run out only for a name
abbrev pub IsRefused : List ℕ → NewNameError → Type 0
IsRefused text (Refused rule) = first_broken_rule text ≡ Some rule
IsRefused text Memory = IsRefName text

-- the ref that follows a branch of the shared repository
abbrev pub tracking_name : List ℕ → List ℕ
tracking_name branch = codes "refs/remotes/origin/" ++ drop 11 branch
