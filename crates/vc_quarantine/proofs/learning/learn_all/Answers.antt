use Rattle.std.proofs.Common.{List, [], get_or, rules, subst, take, ◌∙◌}
use Rattle.std.proofs.lemmas.List.{take_all}
use Rattle.std.proofs.lemmas.Option.{slice_get-get_or}
use Rattle.vc_object.specs.declared.id.ObjectId.{ObjectId}
use Rattle.vc_quarantine.proofs.LearningLemmas.{learnt_kept, learnt_kept_then, learnt_next, learnt_none}
use Rattle.vc_quarantine.specs.Learning.{IsLearnt}
use Rattle.vc_quarantine.proofs.learning.learn_all.Goals as goal

pub loop-i-init : goal.loop-i-init
loop-i-init g c = record {
  same = search rules;
  agrees = λ honest agrees. agrees;
  learnt = λ honest agrees. learnt_none (g.F.Files.content c.args.files.now) c.args.generations.now;
  wear = search rules;
}

pub loop-i-preserved : goal.loop-i-preserved
loop-i-preserved g c =
    let content = g.F.Files.content c.args.files.now in
    let before = c.loop-i.invariant in
    let tips = c.args.tips.now in
    let i = c.loop-i.i in
    let none : ObjectId = record { 0 = [] } in
    let tip = get_or tips i none in
    record {
      same = c.learn_history.ensures.same ∙ before.same;
      wear = search rules;
      agrees = λ honest agrees. (rw before.same at (c.learn_history.ensures.agrees honest)) (before.agrees honest agrees);
      learnt = λ honest agrees.
          learnt_next content tips i tip c.args.generations.now c.loop-i.generations c.learn_history.new.generations (slice_get-get_or tips i none c.loop-i-test.true) (before.learnt honest agrees)
          ((rw before.same at (c.in_ok-learn_history.ensures.learnt honest)) (before.agrees honest agrees));
    }

pub returns-in_err-learn_history-clause-kept : goal.returns-in_err-learn_history-clause-kept
returns-in_err-learn_history-clause-kept g c = λ honest agrees.
    learnt_kept_then (g.F.Files.content c.args.files.now) (take c.loop-i.i c.args.tips.now) c.args.generations.now c.loop-i.generations c.learn_history.new.generations (c.loop-i.invariant.learnt honest agrees) c.in_err-learn_history.ensures.err

pub returns-clause-kept : goal.returns-clause-kept
returns-clause-kept g c = λ honest agrees.
    learnt_kept (g.F.Files.content c.args.files.now) (take c.loop-i.i c.args.tips.now) c.args.generations.now c.loop-i.generations (c.loop-i.invariant.learnt honest agrees)

pub returns-clause-learnt : goal.returns-clause-learnt
returns-clause-learnt g c = λ honest agrees.
    subst (λ (ids : List ObjectId). IsLearnt (g.F.Files.content c.args.files.now) ids c.args.generations.now c.loop-i.generations) (take_all c.loop-i.i c.args.tips.now c.loop-i-test.false) (c.loop-i.invariant.learnt honest agrees)
