-- What a pool of workers did: each of its ports was served until no more connections came.
use Rattle.std.specs.Prelude.{◌≡◌, ⊤, ℕ, List, [], ◌∷◌, ◌++◌, map, Option, Some, None}
use Rattle.std.specs.List.{AllByRecursion, AllZip}
use Rattle.vc_desk.specs.Served.{IsServed}
use Rattle.vc_desk.specs.Talk.{ReceiptText, receipt_text}
use Rattle.vc_desk.specs.declared.pool.Begun.{Begun}
use Rattle.vc_desk.specs.declared.pool.Begun.TheVariants.{Ended, Worker}
use Rattle.vc_desk.specs.declared.pool.PortLine.{PortLine}
use Rattle.vc_desk.specs.declared.work.End.{End}

-- known items stay as they were
abbrev pub Stays : {A : Type 0} → Option (List A) → Option (List A) → Type 0
Stays None new = ⊤
Stays (Some xs) None = ⊥
Stays (Some xs) (Some ys) = ys ≡ xs

-- known items grow by more
abbrev pub Gains : {A : Type 0} → Option (List A) → Option (List A) → List A → Type 0
Gains None new more = ⊤
Gains (Some xs) None more = ⊥
Gains (Some xs) (Some ys) more = ys ≡ xs ++ more

-- the connection, if one came
abbrev pub Comes : {A : Type 0} → Option (List A) → Option (List A) → Option A → Type 0
Comes old new (Some c) = Gains old new (c ∷ [])
Comes old new None = Stays old new

-- the worker was started with this line, or the line was served so
abbrev pub IsBegunAs : {N L : Type 0} → (ℕ → L → L → Type 0) → ℕ → L → Begun N L → Type 0
IsBegunAs served limit line (Worker handle) = (handle.promise.limit ≡ limit) × (handle.promise.line.value ≡ line)
IsBegunAs served limit line (Ended done) = served limit line done.line

module _ {R W : Type 0} (made : ReceiptText → Type 0) (limit : ℕ) (can_fail : R → Type 0) (remaining : R → Option (List ℕ)) (contents : W → Option (List ℕ)) where
  -- the connection was served so, and each of its receipts is of an event of the node
  abbrev pub IsServedBy : ℕ × R × W → End W → Type 0
  IsServedBy c end = IsServed limit can_fail remaining contents c.0 c.1 c.2 end × AllByRecursion made (map receipt_text end.receipts.items)

  module _ {P : Type 0} (came : P → Option (List (ℕ × R × W))) (told : P → Option (List (End W))) where
    -- These connections came of the port, and it was told the end of each, in their order.
    pub record IsServing (old new : P) : Type 0 where
      pub connections : List (ℕ × R × W)
      pub ends : List (End W)
      pub gave : Gains (came old) (came new) connections
      pub heard : Gains (told old) (told new) ends
      pub each : AllZip IsServedBy connections ends

    module _ (closed : P → Type 0) where
      -- and no connection comes any more
      abbrev pub IsPortServed : P → P → Type 0
      IsPortServed old new = IsServing old new × closed new

      -- the worker was started with this port, or the port was served
      abbrev pub IsPortBegun : {N : Type 0} → P → Begun N (PortLine P R W) → Type 0
      IsPortBegun port (Worker handle) = (handle.promise.limit ≡ limit) × (handle.promise.line.value.port ≡ port)
      IsPortBegun port (Ended done) = IsPortServed port done.line.port

      -- whatever port it was begun with, the port is served
      abbrev pub FinishesPort : {N : Type 0} → Begun N (PortLine P R W) → P → Type 0
      FinishesPort begun new = (port : P) → IsPortBegun port begun → IsPortServed port new
