use Rattle.std.proofs.Common.{◌≡◌, ◌≢◌, ◌==◌, ℕ, inr, length, map, true≢false, List, [], ◌∷◌, ◌++◌, sym, ap, subst, ◌∙◌, append_assoc, arith}
use Rattle.std.proofs.lemmas.Bool.Decides.{nat_tests}
use Rattle.std.proofs.lemmas.List.{map_push, nil_from_length, length-append}
use Rattle.std.proofs.lemmas.Result.{err_from_is_err_and}
use Rattle.vc_expression.specs.SetGrammar.{TermText}
use Rattle.vc_expression.specs.SetReading.{Done, Stopped, ReadsSet, after_spaces}
use Rattle.vc_expression.specs.SetViews.{term_view, StandTerms}
use Rattle.vc_expression.specs.declared.token.Term.{Term}
use Rattle.vc_expression.proofs.Places.{end_on, end_short, place_of}
use Rattle.vc_expression.proofs.SetLemmas.{term_found, spaces_front, spaces_shorter, set_stops, set_bad, set_more}
use Rattle.vc_expression.proofs.SetPlaces.{terms_stand}
use Rattle.vc_expression.proofs.set.read_set.Goals as goal

pub returns-in_err-term-clause-fault : goal.returns-in_err-term-clause-fault
returns-in_err-term-clause-fault c =
    let p = err_from_is_err_and c.from_residual.result c.from_residual.ensures.1 in
    rw (p.1, p.2) (set_bad c.args.source.now c.terms.rest.now (map term_view c.terms.terms.items) c.in_err-term.field-0.0 c.terms.invariant.set c.in_err-term.ensures.fault)

pub returns-then-is_empty-clause-ok : goal.returns-then-is_empty-clause-ok
returns-then-is_empty-clause-ok c =
    let none : c.in_ok-term.after.now ≡ [] = nil_from_length c.in_ok-term.after.now (let t = sym c.is_empty.ensures ∙ c.if-is_empty.true in grind (arith, nat_tests, t)) in (
      map term_view c.terms.terms.items,
      term_view c.in_ok-term.term,
      ap (map term_view) c.in_ok-push.ensures.items ∙ map_push term_view c.terms.terms.items c.in_ok-term.term,
      set_stops c.args.source.now c.terms.rest.now (map term_view c.terms.terms.items) (Done (term_view c.in_ok-term.term)) c.terms.invariant.set (rw none at c.in_ok-term.ensures.ok),
    )

pub returns-then-is_empty-clause-slices : goal.returns-then-is_empty-clause-slices
returns-then-is_empty-clause-slices c =
    let none : c.in_ok-term.after.now ≡ [] = nil_from_length c.in_ok-term.after.now (let t = sym c.is_empty.ensures ∙ c.if-is_empty.true in grind (arith, nat_tests, t)) in
    subst (λ (ts : List Term). StandTerms c.args.source.now c.args.source.now ts) (sym c.in_ok-push.ensures.items) (c.terms.invariant.slices (c.in_ok-term.term ∷ []) (rw none at c.in_ok-term.ensures.stands))

pub overflow_sub-result : goal.overflow_sub-result
overflow_sub-result c =
    let f = term_found c.terms.rest.now (term_view c.in_ok-term.term) c.in_ok-term.after.now c.in_ok-term.ensures.ok in
    let e = end_on c.args.source.now c.terms.rest.now f.0 c.in_ok-term.after.now c.terms.invariant.rest f.2 in
    omega (arith, end_short c.args.source.now c.in_ok-term.after.now e)

pub returns-then-not-starts_with-clause-fault : goal.returns-then-not-starts_with-clause-fault
returns-then-not-starts_with-clause-fault c =
    let after = c.in_ok-term.after.now in
    let f = term_found c.terms.rest.now (term_view c.in_ok-term.term) after c.in_ok-term.ensures.ok in
    let e = end_on c.args.source.now c.terms.rest.now f.0 after c.terms.invariant.rest f.2 in
    let some : after ≢ [] = λ n. true≢false (ap (λ (l : List ℕ). length l == 0) (sym n) ∙ sym c.is_empty.ensures ∙ c.if-is_empty.false) in (
      map term_view c.terms.terms.items,
      after,
      set_stops c.args.source.now c.terms.rest.now (map term_view c.terms.terms.items) (Stopped after) c.terms.invariant.set (inr (term_view c.in_ok-term.term, c.in_ok-term.ensures.ok, some, sym c.starts_with.ensures.value ∙ c.if-not-starts_with.true)),
      place_of c.args.source.now after e,
    )

pub terms-smaller : goal.terms-smaller
terms-smaller c =
    let after = c.in_ok-term.after.now in
    let f = term_found c.terms.rest.now (term_view c.in_ok-term.term) after c.in_ok-term.ensures.ok in
    let less = spaces_shorter after (sym c.starts_with.ensures.value ∙ c.if-not-starts_with.false) in
    rw c.after_spaces-rest.ensures (omega (arith, less, ap length f.2, length-append f.0 after))

pub terms-preserved : goal.terms-preserved
terms-preserved c =
    let i = c.terms.invariant in
    let source = c.args.source.now in
    let after = c.in_ok-term.after.now in
    let before = map term_view c.terms.terms.items in
    let term = term_view c.in_ok-term.term in
    let f = term_found c.terms.rest.now term after c.in_ok-term.ensures.ok in
    let s = spaces_front after in
    let items = c.in_ok-push.ensures.items in
    let views : map term_view c.push.new.self.items ≡ before ++ term ∷ [] = ap (map term_view) items ∙ map_push term_view c.terms.terms.items c.in_ok-term.term in record {
      set = λ others ending h.
          subst (λ (ts : List TermText). ReadsSet source (ts ++ others) ending) (sym views) (set_more source c.terms.rest.now after before others term ending i.set c.in_ok-term.ensures.ok (sym c.starts_with.ensures.value ∙ c.if-not-starts_with.false) (rw c.after_spaces-rest.ensures at h));
      rest = rw c.after_spaces-rest.ensures (end_on source c.terms.rest.now (f.0 ++ s.0) (after_spaces after) i.rest (f.2 ∙ ap (λ x. f.0 ++ x) s.2 ∙ sym (append_assoc f.0 s.0 (after_spaces after))));
      slices = λ others h.
          subst (λ (ts : List Term). StandTerms source source (ts ++ others)) (sym items) (rw append_assoc (i.slices (c.in_ok-term.term ∷ others)
          (terms_stand source c.terms.rest.now after c.in_ok-term.term others c.in_ok-term.ensures.stands (sym c.starts_with.ensures.value ∙ c.if-not-starts_with.false) (rw c.after_spaces-rest.ensures at h))));
    }
