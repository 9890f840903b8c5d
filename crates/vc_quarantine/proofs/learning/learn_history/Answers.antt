use Rattle.std.proofs.Common.{rules}
use Rattle.vc_history.proofs.StoredLemmas.{Agrees-same}
use Rattle.vc_history.specs.Numbering.{numbers}
use Rattle.vc_object.specs.ObjectMap.{parents_in}
use Rattle.vc_object_map.specs.Store.{objects}
use Rattle.vc_quarantine.proofs.LearningLemmas.{learnt_broken, learnt_whole, told_broken}
use Rattle.vc_quarantine.proofs.learning.learn_history.Goals as goal

pub returns-in_default-clause-learnt : goal.returns-in_default-clause-learnt
returns-in_default-clause-learnt g c = λ honest agrees.
    learnt_whole (g.F.Files.content c.args.files.now) c.args.tip.now c.args.generations.now c.learn.new.self
    ((rw c.new-store.ensures.files at c.in_default.ensures.closed) honest agrees) ((rw c.new-store.ensures.files at c.in_default.ensures.learnt) honest agrees)

pub returns-in-Missing-clause-agrees : goal.returns-in-Missing-clause-agrees
returns-in-Missing-clause-agrees g c = λ honest agrees. Agrees-same (parents_in (objects (g.F.Files.content c.args.files.now))) (numbers c.args.generations.now) (numbers c.learn.new.self) c.in-Err.ensures.err agrees

pub returns-in-Missing-clause-learnt : goal.returns-in-Missing-clause-learnt
returns-in-Missing-clause-learnt g c = λ honest agrees.
    let content = g.F.Files.content c.args.files.now in
    let told = (rw c.new-store.ensures.files at c.in-Err.ensures.refused) honest agrees in
    learnt_broken content c.args.tip.now c.args.generations.now c.learn.new.self (told_broken content c.args.tip.now c.in-Err.told told (λ fault is. search rules)) c.in-Err.ensures.err

pub returns-in-NotACommit-clause-agrees : goal.returns-in-NotACommit-clause-agrees
returns-in-NotACommit-clause-agrees g c = λ honest agrees. Agrees-same (parents_in (objects (g.F.Files.content c.args.files.now))) (numbers c.args.generations.now) (numbers c.learn.new.self) c.in-Err.ensures.err agrees

pub returns-in-NotACommit-clause-learnt : goal.returns-in-NotACommit-clause-learnt
returns-in-NotACommit-clause-learnt g c = λ honest agrees.
    let content = g.F.Files.content c.args.files.now in
    let told = (rw c.new-store.ensures.files at c.in-Err.ensures.refused) honest agrees in
    learnt_broken content c.args.tip.now c.args.generations.now c.learn.new.self (told_broken content c.args.tip.now c.in-Err.told told (λ fault is. search rules)) c.in-Err.ensures.err

pub returns-in-Fault-clause-agrees : goal.returns-in-Fault-clause-agrees
returns-in-Fault-clause-agrees g c = λ honest agrees. Agrees-same (parents_in (objects (g.F.Files.content c.args.files.now))) (numbers c.args.generations.now) (numbers c.learn.new.self) c.in-Err.ensures.err agrees

pub returns-in-BadObject-clause-learnt : goal.returns-in-BadObject-clause-learnt
returns-in-BadObject-clause-learnt g c = λ honest agrees.
    let content = g.F.Files.content c.args.files.now in
    let told = (rw c.new-store.ensures.files at c.in-Err.ensures.refused) honest agrees in
    learnt_broken content c.args.tip.now c.args.generations.now c.learn.new.self (told_broken content c.args.tip.now c.in-Err.told told (λ fault is. search rules)) c.in-Err.ensures.err

pub returns-in-Absent-clause-learnt : goal.returns-in-Absent-clause-learnt
returns-in-Absent-clause-learnt g c = λ honest agrees.
    let content = g.F.Files.content c.args.files.now in
    let told = (rw c.new-store.ensures.files at c.in-Err.ensures.refused) honest agrees in
    learnt_broken content c.args.tip.now c.args.generations.now c.learn.new.self (told_broken content c.args.tip.now c.in-Err.told told (λ fault is. search rules)) c.in-Err.ensures.err

pub returns-in-Damaged-clause-agrees : goal.returns-in-Damaged-clause-agrees
returns-in-Damaged-clause-agrees g c = λ honest agrees. Agrees-same (parents_in (objects (g.F.Files.content c.args.files.now))) (numbers c.args.generations.now) (numbers c.learn.new.self) c.in-Err.ensures.err agrees

pub returns-in-Damaged-clause-learnt : goal.returns-in-Damaged-clause-learnt
returns-in-Damaged-clause-learnt g c = λ honest agrees.
    let content = g.F.Files.content c.args.files.now in
    let told = (rw c.new-store.ensures.files at c.in-Err.ensures.refused) honest agrees in
    learnt_broken content c.args.tip.now c.args.generations.now c.learn.new.self (told_broken content c.args.tip.now c.in-Err.told told (λ fault is. search rules)) c.in-Err.ensures.err
