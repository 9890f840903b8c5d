use Rattle.std.proofs.Common.{◌≡◌, ◌++◌, ap, ◌∙◌, subst, arith, length, length-append, length-drop, ◌+◌, ◌-◌}
use Rattle.vc_pkt.specs.Held.{Held, further}
use Rattle.vc_pkt.specs.Line.{IsLineList, IsBadAt}
use Rattle.vc_pkt.proofs.ReaderLaws.{saturated, front_length, fed, fed_bad}
use Rattle.vc_pkt.proofs.reader.PktReader.feed.Goals as goal

pub invariant_of-self-in-Ok : goal.invariant_of-self-in-Ok
invariant_of-self-in-Ok c =
    let s = c.self.invariant in
    let found = c.in-Ok.ensures in
    let now = c.in_ok-extend_from_slice.ensures.items in
    let there = c.behind.ensures in
    let splits = subst (λ t. IsLineList t found.0 found.1) there found.2 in
    record { lines = s.lines ++ found.0; rest = found.1; splits = fed _ _ _ _ _ s.lines s.rest s.splits s.start s.scanned now found.0 found.1 splits; start = omega (arith, ap length now, length-append c.self.inside.buffer.items c.args.piece.now, s.start); scanned = omega (arith, found.3, ap length there, length-drop c.self.inside.scanned c.extend_from_slice.new.self.items, ap length now, length-append c.self.inside.buffer.items c.args.piece.now, s.scanned) }

pub overflow_sub-ahead : goal.overflow_sub-ahead
overflow_sub-ahead c =
    let s = c.self.invariant in
    let len = front_length _ _ _ _ _ s.lines s.rest s.splits s.start s.scanned c.in_ok-extend_from_slice.ensures.items in
    omega arith

pub returns-in-Ok-clause-lines : goal.returns-in-Ok-clause-lines
returns-in-Ok-clause-lines c =
    let s = c.self.invariant in
    let found = c.in-Ok.ensures in
    let splits = subst (λ t. IsLineList t found.0 found.1) c.behind.ensures found.2 in
    (s.lines ++ found.0, found.1, fed _ _ _ _ _ s.lines s.rest s.splits s.start s.scanned c.in_ok-extend_from_slice.ensures.items found.0 found.1 splits)

pub returns-in-Err-clause-fault : goal.returns-in-Err-clause-fault
returns-in-Err-clause-fault c =
    let s = c.self.invariant in
    let found = subst (λ t. IsBadAt t c.in-Err.n) c.behind.ensures c.in-Err.ensures in
    let bad = fed_bad _ _ _ _ _ s.lines s.rest s.splits s.start s.scanned c.in_ok-extend_from_slice.ensures.items c.in-Err.n found in
    let whole = c.self.view_is ∙ c.compact.ensures in
    let n = c.self.inside.scanned - c.self.inside.start + c.in-Err.n in
    (n, subst (λ (h : Held). IsBadAt (h.bytes ++ c.args.piece.now) n) whole bad, subst (λ (h : Held). c.saturating_add-place.result ≡ further h.place n) whole (saturated c.self.inside.place n _ (omega arith) c.saturating_add-place.ensures))
