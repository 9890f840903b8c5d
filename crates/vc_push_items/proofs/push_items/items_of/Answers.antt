use Rattle.std.proofs.Common.{rules, ◌≡◌, ◌∙◌, ap, map, take, length, arith}
use Rattle.std.proofs.Math.Seq.{take-length}
use Rattle.vc_files.specs.declared.faults.Fault.TheVariants.{Memory}
use Rattle.vc_push_items.specs.PushWords.{IsOfItemWords}
use Rattle.vc_cli.specs.declared.failure.Failure.TheVariants.{Fault}
use Rattle.vc_cli.proofs.ToldLemmas.{handed_on}
use Rattle.vc_push_items.proofs.PushLemmas.{items_fault, items_more, items_stop}
use Rattle.vc_push_items.proofs.push_items.items_of.Goals as goal

pub loop-word-preserved : goal.loop-word-preserved
loop-word-preserved g c =
    let i = c.loop-word.invariant in
    let item = rw i.same at c.in_ok-item.ensures.item in
    record {
      same = c.in_ok-item.ensures.same ∙ i.same;
      items = λ honest. items_more (g.F.Files.content c.args.files.now) c.args.words.now c.loop-word.word-index _ c.loop-word-test.true c.loop-word.items.items c.in_ok-item.item _ (i.items honest) (item honest) c.in_ok-push.ensures.items;
      wear = search rules;
    }

pub returns-clause-items : goal.returns-clause-items
returns-clause-items g c =
    let all : take c.loop-word.word-index c.args.words.now ≡ c.args.words.now = ap (λ i. take i c.args.words.now) (let last : c.loop-word.word-index ≡ length c.args.words.now = omega arith in last) ∙ take-length c.args.words.now in
    rw all at c.loop-word.invariant.items

pub returns-in_err-item-clause-same : goal.returns-in_err-item-clause-same
returns-in_err-item-clause-same g c = c.in_err-item.ensures.same ∙ c.loop-word.invariant.same

pub returns-in_err-item-clause-refused : goal.returns-in_err-item-clause-refused
returns-in_err-item-clause-refused g c = λ honest.
    let i = c.loop-word.invariant in
    let content = g.F.Files.content in
    let failure = c.in_err-item.field-0.0 in
    handed_on (IsOfItemWords (content c.args.files.now) (map (λ word. word.now) c.args.words.now)) failure c.from_residual.result c.from_residual.ensures.1
    (items_stop (content c.args.files.now) c.args.words.now c.loop-word.word-index _ c.loop-word-test.true c.loop-word.items.items failure (i.items honest) (rw i.same at (c.in_err-item.ensures.refused honest)))

pub returns-in_err-push-clause-refused : goal.returns-in_err-push-clause-refused
returns-in_err-push-clause-refused g c = λ honest.
    let i = c.loop-word.invariant in
    let content = g.F.Files.content in
    let item = rw i.same at c.in_ok-item.ensures.item in
    handed_on (IsOfItemWords (content c.args.files.now) (map (λ word. word.now) c.args.words.now)) (Fault Memory) c.from_residual-in_err-push.result c.from_residual-in_err-push.ensures.1
    (items_fault (content c.args.files.now) c.args.words.now c.loop-word.word-index _ c.loop-word-test.true c.loop-word.items.items c.in_ok-item.item (i.items honest) (item honest))
