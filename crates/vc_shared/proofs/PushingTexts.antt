-- A push that was read can be told of: each of its commands stood in a line, so a line of a report has room for what is told of it.
use Rattle.std.proofs.Common.{◌≡◌, ℕ, ◌==◌, ◌-◌, ◌≤◌, arith, Bool, true, false, cond, List, [], ◌∷◌, ◌++◌, length, take, sym, ap, ◌∙◌, subst, length-append}
use Rattle.std.specs.Prelude.{slice_index}
use Rattle.std.specs.List.{AllByRecursion}
use Rattle.std.proofs.lemmas.List.{length-take-le}
use Rattle.std.proofs.lemmas.List.Elements.{All-from_recursion}
use Rattle.hex.proofs.HexLemmas.{decode_of-ok, decode_sized-ok, decode_sized-twice}
use Rattle.vc_fetch.specs.Ids.{WritesId}
use Rattle.vc_object.specs.Lines.{IsId}
use Rattle.vc_object.specs.declared.id.ObjectId.{ObjectId}
use Rattle.vc_pkt.specs.Line.{IsLine, IsLines, LineText, flush, text}
use Rattle.vc_pkt.specs.TextLine.{without_lf}
use Rattle.vc_push.specs.Push.{AreCommandLines, CommandText, IsCommandLine, IsFirstCommandLine, spelled_command}
use Rattle.vc_shared.specs.Pushing.{ReadsTellable}
use Rattle.vc_shared.specs.Slots.{IsTellable}

-- ---- lines
abbrev Fits : LineText → Type 0
Fits flush = Unit {0}
Fits (text body) = length body ≤ 65516

fits : (line : LineText) (bytes : List ℕ) → IsLine line bytes → Fits line
fits flush bytes h = tt
fits (text body) bytes (digits, written, short, whole) = short

all_fit : (lines : List LineText) (bytes : List ℕ) → IsLines lines bytes → AllByRecursion Fits lines
all_fit [] bytes h = tt
all_fit (line ∷ lines) bytes (first, more, here, others, whole) = (fits line first here, all_fit lines more others)

lf_short : (line : List ℕ) → length (without_lf line) ≤ length line
lf_short line = by (slice_index line (length line - 1) == 10)
  where
    by : (b : Bool) → length (cond b (take (length line - 1) line) line) ≤ length line
    by true = let short = length-take-le (length line - 1) line in omega (arith, short)
    by false = omega arith

-- ---- what a line has room for
ids_long : (digits : List ℕ) (id : ObjectId) → WritesId id digits → length digits ≡ 40
ids_long digits id w = decode_sized-ok digits 20 id.0 w

pub read_id : (digits : List ℕ) (id : ObjectId) → WritesId id digits → IsId id
read_id digits id w =
    let long = decode_sized-ok digits 20 id.0 w in
    let read = decode_of-ok digits id.0 (sym (decode_sized-twice digits 20 long) ∙ w) in
    let sized = read.2 in
    record { sized = omega (arith, long, sized); bytes = read.3 }

room : (old new words line : List ℕ) → length old ≡ 40 → length new ≡ 40 → without_lf line ≡ spelled_command old new words → length line ≤ 65516 → length words ≤ 65434
room old new words line a b spelled fit =
    let whole : length (without_lf line) ≡ length (spelled_command old new words) = ap length spelled in
    let front = length-append old (32 ∷ (new ++ 32 ∷ words)) in
    let back = length-append new (32 ∷ words) in
    let short = lf_short line in
    omega (arith, a, b, whole, front, back, short, fit)

told_line : (c : CommandText) (line : List ℕ) → IsCommandLine c line → length line ≤ 65516 → IsTellable c
told_line c line h fit = record {
  name = h.name;
  short = room h.old h.new c.name line (ids_long h.old c.old h.writes_old) (ids_long h.new c.new h.writes_new) h.spelled fit;
  id = read_id h.new c.new h.writes_new;
}

told_first : (atomic : Bool) (c : CommandText) (line : List ℕ) → IsFirstCommandLine atomic c line → length line ≤ 65516 → IsTellable c
told_first atomic c line h fit = record {
  name = h.name;
  short =
      let whole = room h.old h.new (c.name ++ 0 ∷ h.capabilities) line (ids_long h.old c.old h.writes_old) (ids_long h.new c.new h.writes_new) h.spelled fit in
      let parts = length-append c.name (0 ∷ h.capabilities) in
      omega (arith, whole, parts);
  id = read_id h.new c.new h.writes_new;
}

told_lines : (cs : List CommandText) (others behind : List LineText) → AreCommandLines cs others → AllByRecursion Fits (others ++ behind) → AllByRecursion IsTellable cs
told_lines [] others behind each fit = tt
told_lines (c ∷ cs) [] behind each fit = absurd each
told_lines (c ∷ cs) (flush ∷ others) behind each fit = absurd each
told_lines (c ∷ cs) (text line ∷ others) behind (here, each) fit = (told_line c line here fit.0, told_lines cs others behind each fit.1)

pub reads_tellable : ReadsTellable
reads_tellable push bytes (lines, each, s) =
    let fit = subst (AllByRecursion Fits) s.whole (all_fit lines bytes each) in
    let told : AllByRecursion IsTellable (s.command ∷ s.commands) = (told_first push.atomic s.command s.first s.begins fit.0, told_lines s.commands s.others (flush ∷ s.stream) s.each fit.1) in
    record { each = All-from_recursion IsTellable push.commands (subst (AllByRecursion IsTellable) (sym s.some) told); few = s.few }
