use Rattle.std.proofs.Common.{arith, ◌≡◌, ℕ, length, take, sym, ap, ◌∙◌, subst}
use Rattle.std.specs.Prelude.{min}
use Rattle.std.specs.List.{AllByRecursion}
use Rattle.std.proofs.lemmas.List.{take_all, take_min}
use Rattle.vc_object.specs.Lines.{IsId}
use Rattle.vc_object.specs.ObjectId.{is_id}
use Rattle.vc_exchange.proofs.WantingHaves.{more_taken, none_taken, pushed_id}
use Rattle.vc_exchange.proofs.wanting.first_ids.Goals as goal

pub loop-id-init : goal.loop-id-init
loop-id-init c = record {
  first = c.new-first.ensures.items ∙ sym (none_taken (take c.min-count.result c.args.ids.now));
  ids = subst (AllByRecursion IsId) (sym c.new-first.ensures.items) tt;
}

pub loop-id-preserved : goal.loop-id-preserved
loop-id-preserved c =
    let front = take c.min-count.result c.args.ids.now in
    let pushed = c.in_ok-push.ensures.items in
    record {
      first = more_taken front c.loop-id.first.items c.push.new.self.items c.loop-id.id-index c.named.result c.loop-id-test.true c.named.ensures.same pushed c.loop-id.invariant.first;
      ids = pushed_id c.loop-id.first.items c.push.new.self.items c.named.result pushed (ap is_id c.named.ensures.same ∙ c.named.ensures.valid) c.loop-id.invariant.ids;
    }

pub returns-clause-first : goal.returns-clause-first
returns-clause-first c =
    let ids = c.args.ids.now in
    let front = take c.min-count.result ids in
    let count : c.min-count.result ≡ min 256 (length ids) = omega (arith, c.min-count.ensures) in
    c.loop-id.invariant.first ∙ take_all c.loop-id.id-index front (omega (arith, c.loop-id-test.false)) ∙ ap (λ (k : ℕ). take k ids) count ∙ take_min 256 ids

pub returns-clause-ids : goal.returns-clause-ids
returns-clause-ids c = c.loop-id.invariant.ids
