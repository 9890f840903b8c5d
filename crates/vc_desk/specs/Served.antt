-- What all the workers did together: each served its connection, and their receipts are the log's entries, each once.
use Rattle.std.specs.Prelude.{if◌then◌else◌, ◌≡◌, ◌<◌, ◌==◌, ◌+◌, ⊤, ℕ, List, [], ◌∷◌, map, Option, Some, None}
use Rattle.vc_shared.specs.Opening.{opening_text}
use Rattle.vc_files.specs.FileMap.{FileMap}
use Rattle.vc_shared.specs.Holding.{SharedText}
use Rattle.vc_desk.specs.Entry.{EntryText}
use Rattle.vc_desk.specs.Talk.{Ends, ReceiptText, receipt_text}
use Rattle.vc_desk.specs.declared.serve.Started.{Started}
use Rattle.vc_desk.specs.declared.serve.Started.TheVariants.{Worker, Not}
use Rattle.vc_desk.specs.declared.serve.NotServed.{NotServed}
use Rattle.vc_desk.specs.declared.serve.NotServed.TheVariants.{Before, LogDiffers}
use Rattle.vc_desk.specs.declared.work.End.{End}

-- the entry with its place, if it is of the connection, and more
abbrev pub receipts_then : ℕ → ℕ → EntryText → List (ℕ × EntryText) → List (ℕ × EntryText)
receipts_then name place e es = if e.connection == name then (place, e) ∷ es else es

-- the entries of a connection, each with its place in the log
abbrev pub receipts_of : ℕ → ℕ → List EntryText → List (ℕ × EntryText)
receipts_of name place [] = []
receipts_of name place (e ∷ log) = receipts_then name place e (receipts_of name (place + 1) log)

-- the entry, if it was copied
abbrev pub IsCopy : Option EntryText → EntryText → Type 0
IsCopy None e = ⊤
IsCopy (Some copy) e = copy ≡ e

-- the receipts are of these entries at these places, one of each, in their order
abbrev pub AreCopies : List ReceiptText → List (ℕ × EntryText) → Type 0
AreCopies [] [] = ⊤
AreCopies (r ∷ rs) (e ∷ es) = (r.place ≡ e.0) × IsCopy r.entry e.1 × AreCopies rs es
AreCopies _ _ = ⊥

abbrev pub AllBelow : ℕ → List EntryText → Type 0
AllBelow count [] = ⊤
AllBelow count (e ∷ log) = (e.connection < count) × AllBelow count log

-- The receipts of the connections from this one on are its entries in the log, and no entry is of another.
abbrev pub AreReceipts : {W : Type 0} → List EntryText → ℕ → List (End W) → Type 0
AreReceipts log name [] = AllBelow name log
AreReceipts log name (end ∷ ends) = AreCopies (map receipt_text end.receipts.items) (receipts_of name 0 log) × AreReceipts log (name + 1) ends

module _ {R W : Type 0} (limit : ℕ) (can_fail : R → Type 0) (remaining : R → Option (List ℕ)) (contents : W → Option (List ℕ)) where
  abbrev pub IsServed : ℕ → R → W → End W → Type 0
  IsServed name reader writer end = Ends limit (can_fail reader) name (remaining reader) (contents writer) (contents end.writer) (map receipt_text end.receipts.items) end.ended

  abbrev pub AllServed : ℕ → List (R × W) → List (End W) → Type 0
  AllServed name [] [] = ⊤
  AllServed name (c ∷ cs) (end ∷ ends) = IsServed name c.0 c.1 end × AllServed (name + 1) cs ends
  AllServed name cs ends = ⊥

  -- the worker was started with this connection, or the connection has ended
  abbrev pub IsBegun : ℕ → R → W → Started R W → Type 0
  IsBegun name reader writer (Worker handle) = (handle.promise.limit ≡ limit) × (handle.promise.name ≡ name) × (handle.promise.reader.value ≡ reader) × (handle.promise.writer.value ≡ writer)
  IsBegun name reader writer (Not end) = IsServed name reader writer end

  abbrev pub AllBegun : ℕ → List (R × W) → List (Started R W) → Type 0
  AllBegun name [] [] = ⊤
  AllBegun name (c ∷ cs) (s ∷ ss) = IsBegun name c.0 c.1 s × AllBegun (name + 1) cs ss
  AllBegun name cs ss = ⊥

  -- whatever connection it was begun with, it is served
  abbrev pub Finishes : Started R W → End W → Type 0
  Finishes started end = (name : ℕ) (reader : R) (writer : W) → IsBegun name reader writer started → IsServed name reader writer end

-- ---- what is handed back if it isn't told as served

-- Nothing was served: the connections are as they were, and so is what the node's files hold. Or the receipts differ from the log, or
-- the node that was served is not opened as the one that was handed in.
abbrev pub IsHandedBack : {F R W : Type 0} → (F → FileMap) → SharedText F → List (R × W) → NotServed F R W → Type 0
IsHandedBack content shared connections (Before old given fault) = (content old.files ≡ content shared.files) × (given.items ≡ connections)
IsHandedBack content shared connections (LogDiffers all opening) = AreReceipts all.kept.log 0 all.ends.items → all.kept.opening ≡ opening_text opening → ⊥
