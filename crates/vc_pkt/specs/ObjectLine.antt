-- The line that begins an object in a stream: `obj`, its kind and its size.
use Rattle.std.specs.Prelude.{◌≡◌, ◌+◌, ◌-◌, ◌*◌, ℕ, List, [], ◌∷◌, ◌++◌, codes, Option, Some, None, nat_lt, ◌==◌, ◌||◌, min, if◌then◌else◌}
use Rattle.vc_object.specs.Header.{IsSize, number}
use Rattle.vc_object.specs.Kind.{word}
use Rattle.vc_object.specs.Items.{◌>>=◌}
use Rattle.vc_object.specs.Lines.{after_word}
use Rattle.vc_object.specs.Object.{oversize}
use Rattle.vc_object.specs.declared.kind.Kind.{Kind}
use Rattle.vc_object.specs.declared.kind.Kind.TheVariants as kinds
use Rattle.vc_pkt.specs.TextLine.{without_lf}

-- the line's text is `obj`, the word of the kind and the size in decimal, with single spaces between
pub record IsObjectLine (kind : Kind) (size : ℕ) (line : List ℕ) : Type 0 where
  pub digits : List ℕ
  pub decimal : IsSize digits
  pub states : size ≡ number digits
  pub spelled : without_lf line ≡ codes "obj " ++ (word kind ++ 32 ∷ digits)

abbrev pub or_else : Kind → Option (List ℕ) → Option (Kind × List ℕ) → Option (Kind × List ℕ)
or_else kind (Some rest) other = Some (kind, rest)
or_else kind None other = other

-- the kind that the text names, and what follows it
unfoldable pub kind_at : List ℕ → Option (Kind × List ℕ)
kind_at text =
    or_else kinds.Blob (after_word (codes "obj blob ") text)
    (or_else kinds.Tree (after_word (codes "obj tree ") text)
    (or_else kinds.Commit (after_word (codes "obj commit ") text)
    (or_else kinds.Tag (after_word (codes "obj tag ") text) None)))

-- the number that the digits write behind those of n, or one above the limit in place of a greater one
abbrev pub size_after : ℕ → List ℕ → Option ℕ
size_after n [] = Some n
size_after n (d ∷ ds) = if nat_lt d 48 || nat_lt 57 d then None else size_after (min (n * 10 + (d - 48)) oversize) ds

abbrev pub size_of : List ℕ → Option ℕ
size_of [] = None
size_of (d ∷ []) = size_after 0 (d ∷ [])
size_of (d ∷ e ∷ ds) = if d == 48 then None else size_after 0 (d ∷ e ∷ ds)

-- the kind and the size of a line that begins an object, a size above the limit as one above it
unfoldable pub object_line : List ℕ → Option (Kind × ℕ)
object_line line = do
  found ← kind_at (without_lf line)
  size ← size_of found.1
  Some (found.0, size)
