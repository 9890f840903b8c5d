-- What a reader of lines is asked, one call after another.
use Rattle.std.specs.Prelude.{◌≡◌, List, [], ◌∷◌, ◌++◌, ℕ}
use Rattle.vc_pkt.specs.Line.{LineText}
use Rattle.vc_pkt.specs.Held.{Held, Gives}

-- a call that did what it was to do: a piece was taken in, or a line was given
pub data Use : Type 0 where
  fed : List ℕ → Use
  gave : LineText → Use

-- the calls lead from what was held to what is held now
abbrev pub LeadsTo : List Use → Held → Held → Type 0
LeadsTo [] old new = new ≡ old
LeadsTo (fed piece ∷ uses) old new = LeadsTo uses (record old { bytes = old.bytes ++ piece }) new
LeadsTo (gave line ∷ uses) old new = (between : Held) × Gives old line between × LeadsTo uses between new

-- all pieces, one behind another
abbrev pub bytes_fed : List Use → List ℕ
bytes_fed [] = []
bytes_fed (fed piece ∷ uses) = piece ++ bytes_fed uses
bytes_fed (gave line ∷ uses) = bytes_fed uses

-- all lines that were given
abbrev pub lines_given : List Use → List LineText
lines_given [] = []
lines_given (fed piece ∷ uses) = lines_given uses
lines_given (gave line ∷ uses) = line ∷ lines_given uses
