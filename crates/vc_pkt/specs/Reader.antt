use Rattle.std.specs.Prelude.{◌≡◌, ◌≤◌, ◌+◌, ℕ, List, length, drop}
use Rattle.vc_pkt.specs.Line.{LineText, IsLineList}
use Rattle.vc_pkt.specs.Held.{Held}
use Rattle.vc_pkt.specs.declared.reader.PktReader.TheInside.{Inside}

abbrev pub held : Inside → Held
held r = record { bytes = drop r.start r.buffer.items; place = r.place }

-- the buffer from start on is lines, and from scanned on less than a line
pub record IsReader (r : Inside) : Type 0 where
  pub lines : List LineText
  pub rest : List ℕ
  pub splits : IsLineList (drop r.start r.buffer.items) lines rest
  pub start : r.start ≤ length r.buffer.items
  pub scanned : r.scanned + length rest ≡ length r.buffer.items
