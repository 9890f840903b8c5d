use Rattle.std.specs.Prelude.{◌↔◌, drop, map}
use Rattle.vc_desk.specs.Entry.{entry_text}
use Rattle.vc_desk.specs.Served.{AreCopies, receipts_of}
use Rattle.vc_desk.specs.Talk.{receipt_text}
use Rattle.vc_desk.proofs.compare.are_copies.Given as goal

-- what is left of both agrees exactly if all does
abbrev pub invariant-loop-place : goal.invariant-loop-place
invariant-loop-place l =
    AreCopies (map receipt_text l.fn.receipts) (receipts_of l.name 0 (map entry_text l.log)) ↔ AreCopies (map receipt_text l.left) (receipts_of l.name l.place (map entry_text (drop l.place l.log)))
