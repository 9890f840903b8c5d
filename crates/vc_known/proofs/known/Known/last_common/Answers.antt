use Rattle.std.proofs.Common.{rules, ◌≡◌, ◌∙◌, Contains, true, false, true≢false, sym, subst, arith, inl, inr}
use Rattle.std.proofs.Math.ListN.{length-map}
use Rattle.std.proofs.lemmas.Bool.{cases_lt}
use Rattle.vc_known.specs.Common.{HasMoment}
use Rattle.vc_known.specs.Known.{moments_in}
use Rattle.vc_known.proofs.known.Known.last_common.Goals as goal

pub loop-count-init : goal.loop-count-init
loop-count-init c =
    let long = length-map c.args.self.now.moments.items (λ roots. roots.items) in
    record { moment = omega (arith, c.len-count.ensures, long); last = λ more above fits has. omega (arith, above, fits, c.len-count.ensures, long) }

pub loop-count-preserved : goal.loop-count-preserved
loop-count-preserved c =
    let before = c.loop-count.invariant in
    let no : c.are_among.result ≡ false = search rules in
    record {
      moment = omega (arith, before.moment);
      last = λ more above fits has. elim (cases_lt c.loop-count.count more) [
        | inl less ↦ before.last more less fits has
        | inr least ↦
            let is : more ≡ c.loop-count.count = omega (arith, above, least, c.loop-count-test.true) in
            let all : HasMoment (moments_in c.args.self.now) c.args.names.now.keys c.loop-count.count = subst (HasMoment (moments_in c.args.self.now) c.args.names.now.keys) is has in
            true≢false (sym (c.are_among.ensures.1 (λ id at. all id (subst (λ l. Contains l id) c.last_roots.ensures at))) ∙ no)
      ];
    }

pub returns-then-are_among : goal.returns-then-are_among
returns-then-are_among c =
    let before = c.loop-count.invariant in
    let yes : c.are_among.result ≡ true = search rules in
    record {
      moment = before.moment;
      has = λ id at. c.are_among.ensures.0 yes id (subst (λ l. Contains l id) (sym c.last_roots.ensures) at);
      last = before.last;
    }

pub returns : goal.returns
returns c =
    let before = c.loop-count.invariant in
    let zero : c.loop-count.count ≡ 0 = omega (arith, c.loop-count-test.false) in
    record {
      moment = omega arith;
      has = λ id at. absurd (omega (arith, at.1));
      last = λ more above fits. before.last more (omega (arith, above, zero)) fits;
    }
