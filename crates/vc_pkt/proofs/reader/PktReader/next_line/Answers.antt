use Rattle.std.proofs.Common.{◌++◌, length, refl, sym, ap, ◌∙◌, subst, arith}
use Rattle.vc_pkt.specs.Line.{IsLineList, IsPart}
use Rattle.vc_pkt.specs.LineView.{line_text}
use Rattle.vc_pkt.specs.Held.{Held, further}
use Rattle.vc_pkt.proofs.ListLaws.{splits_line}
use Rattle.vc_pkt.proofs.ReaderLaws.{saturated, part_held, taken_length, taken_rest, taken_within}
use Rattle.vc_pkt.proofs.reader.PktReader.next_line.Goals as goal

pub invariant_of-self : goal.invariant_of-self
invariant_of-self c =
    let s = c.self.invariant in
    let found = c.in-Ok.ensures in
    let there = c.behind-held.ensures in
    let next = splits_line _ s.lines s.rest (line_text c.in-Ok.line) found.0 c.in-Ok.more.now s.splits found.1 (sym there ∙ found.2) in
    record {
      lines = next.0;
      rest = s.rest;
      splits = subst (λ t. IsLineList t next.0 s.rest) (sym (taken_rest _ _ found.0 c.in-Ok.more.now _ s.start there found.2)) next.2;
      start = taken_within _ _ found.0 c.in-Ok.more.now _ s.start there found.2;
      scanned = s.scanned;
    }

pub returns-in-Ok : goal.returns-in-Ok
returns-in-Ok c =
    let s = c.self.invariant in
    let found = c.in-Ok.ensures in
    let there = c.behind-held.ensures in
    let whole = c.self.view_is in
    let len = taken_length _ _ found.0 c.in-Ok.more.now _ s.start there found.2 in
    let rest = taken_rest _ _ found.0 c.in-Ok.more.now _ s.start there found.2 in (
      (
        refl,
        λ _. tt,
        record {
          spelled = found.0;
          is = found.1;
          bytes = sym (ap (λ (h : Held). h.bytes) whole) ∙ sym there ∙ found.2 ∙ ap (λ t. found.0 ++ t) (sym rest);
          place = saturated c.self.inside.place _ _ (omega arith) c.saturating_add-self-inside.ensures ∙ ap (λ n. further c.self.inside.place n) len ∙ ap (λ (h : Held). further h.place (length found.0)) whole;
        },
      ),
      tt,
    )

pub returns-in-Err : goal.returns-in-Err
returns-in-Err c =
    let s = c.self.invariant in
    let whole = c.self.view_is in
    let there = c.behind-held.ensures in
    let part = part_held _ s.lines s.rest c.in-Err.field-0 (subst (λ t. IsLineList t s.lines s.rest) (sym there) s.splits) c.in-Err.ensures in
    ((refl, λ _. tt, (subst (λ (h : Held). IsPart h.bytes) whole (subst IsPart there part), whole)), tt)
