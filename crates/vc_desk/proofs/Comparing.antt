-- Whether receipts are a log's entries: exactly if what is left of both is so.
use Rattle.std.proofs.Common.{arith, true≢false, ◌≡◌, ◌↔◌, ◌==◌, ℕ, Bool, false, List, [], ◌∷◌, map, drop, length, sym, subst, ◌∙◌}
use Rattle.std.proofs.lemmas.List.{drop_all}
use Rattle.vc_desk.specs.declared.entry.Entry.{Entry}
use Rattle.vc_desk.specs.declared.locked.Receipt.{Receipt}
use Rattle.vc_desk.specs.Entry.{entry_text}
use Rattle.vc_desk.specs.Served.{AreCopies, receipts_of}
use Rattle.vc_desk.specs.Talk.{receipt_text}

-- at the log's end no receipt is left
pub copies_end : (all left : List Receipt) (log : List Entry) (name place : ℕ) → place ≡ length log
    → AreCopies (map receipt_text all) (receipts_of name 0 (map entry_text log)) ↔ AreCopies (map receipt_text left) (receipts_of name place (map entry_text (drop place log)))
    → AreCopies (map receipt_text all) (receipts_of name 0 (map entry_text log)) ↔ AreCopies (map receipt_text left) []
copies_end all left log name place end so =
    subst (λ (l : List Entry). AreCopies (map receipt_text all) (receipts_of name 0 (map entry_text log)) ↔ AreCopies (map receipt_text left) (receipts_of name place (map entry_text l))) (drop_all place log (omega (arith, end))) so

pub never_left : (left : List Receipt) (is_empty : Bool) → is_empty ≡ (length left == 0) → is_empty ≡ false → AreCopies (map receipt_text left) [] → ⊥
never_left [] is_empty is other h = true≢false (sym is ∙ other)
never_left (r ∷ rs) is_empty is other h = absurd h
