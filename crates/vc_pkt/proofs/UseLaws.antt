-- However a stream is cut, its lines are those of its bytes.
use Rattle.std.proofs.Common.{◌≡◌, ℕ, List, [], ◌∷◌, ◌++◌, refl, ap, sym, ◌∙◌, append_assoc}
use Rattle.std.proofs.lemmas.List.{append-nil}
use Rattle.vc_pkt.specs.Line.{IsLines, IsPart, IsLineList}
use Rattle.vc_pkt.specs.Held.{Held}
use Rattle.vc_pkt.specs.Uses.{Use, fed, gave, LeadsTo, bytes_fed, lines_given}

-- what was held and fed is the lines that were given, and what is held now
record Led (uses : List Use) (old new : Held) : Type 0 where
  front : List ℕ
  each : IsLines (lines_given uses) front
  whole : old.bytes ++ bytes_fed uses ≡ front ++ new.bytes

led : (uses : List Use) (old new : Held) → LeadsTo uses old new → Led uses old new
led [] old new e = record { front = []; each = refl; whole = append-nil old.bytes ∙ sym (ap (λ (h : Held). h.bytes) e) }
led (fed piece ∷ uses) old new h =
    let more = led uses (record old { bytes = old.bytes ++ piece }) new h in
    record { front = more.front; each = more.each; whole = sym (append_assoc old.bytes piece (bytes_fed uses)) ∙ more.whole }
led (gave line ∷ uses) old new (between, gives, h) =
    let more = led uses between new h in
    record {
      front = gives.spelled ++ more.front;
      each = (gives.spelled, more.front, gives.is, more.each, refl);
      whole =
          ap (λ t. t ++ bytes_fed uses) gives.bytes ∙ append_assoc gives.spelled between.bytes (bytes_fed uses)
          ∙ ap (λ t. gives.spelled ++ t) more.whole ∙ sym (append_assoc gives.spelled more.front new.bytes);
    }

pub however_cut : (uses : List Use) (held : Held) → LeadsTo uses (record { bytes = []; place = 0 }) held → IsPart held.bytes → IsLineList (bytes_fed uses) (lines_given uses) held.bytes
however_cut uses held h part =
    let l = led uses (record { bytes = []; place = 0 }) held h in
    record { front = l.front; each = l.each; part = part; whole = l.whole }
