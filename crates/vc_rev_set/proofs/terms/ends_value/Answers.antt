use Rattle.std.proofs.Common.{Ok, IfOk, IfErr, subst}
use Rattle.vc_rev.specs.Answer.{IsTold}
use Rattle.vc_expression.specs.Grammar.{RevText}
use Rattle.vc_rev_set.specs.Selection.{BothAsk, BothGive}
use Rattle.vc_expression.specs.Views.{rev_view}
use Rattle.vc_rev_set.proofs.terms.ends_value.Goals as goal

pub returns-in-Both-clause-ok : goal.returns-in-Both-clause-ok
returns-in-Both-clause-ok g c = rw c.in-Both.is c.both.ensures.ok

pub returns-in-Both-clause-refused : goal.returns-in-Both-clause-refused
returns-in-Both-clause-refused g c = rw c.in-Both.is c.both.ensures.refused

pub returns-in-From-clause-ok : goal.returns-in-From-clause-ok
returns-in-From-clause-ok g c = let h = rw c.head.ensures at c.both-in-From.ensures.ok in rw c.in-From.is h

pub returns-in-From-clause-refused : goal.returns-in-From-clause-refused
returns-in-From-clause-refused g c = let h = rw c.head.ensures at c.both-in-From.ensures.refused in rw c.in-From.is h

pub returns-in-To-clause-ok : goal.returns-in-To-clause-ok
returns-in-To-clause-ok g c =
    let s = g.R.Repository.source (g.R.Repository.view_of c.args.repo.now) in
    let h = subst (λ (rev : RevText). IfOk c.both-in-To.result (λ found. g.R.Objects.is_honest → BothGive s rev (rev_view c.in-To.second) (Ok found))) c.head-in-To.ensures c.both-in-To.ensures.ok in
    rw c.in-To.is h

pub returns-in-To-clause-refused : goal.returns-in-To-clause-refused
returns-in-To-clause-refused g c =
    let s = g.R.Repository.source (g.R.Repository.view_of c.args.repo.now) in
    let blames = g.R.Repository.blames (g.R.Repository.view_of c.args.repo.now) in
    let h = subst (λ (rev : RevText). IfErr c.both-in-To.result (λ e. g.R.Objects.is_honest → IsTold blames (BothAsk s rev (rev_view c.in-To.second)) (BothGive s rev (rev_view c.in-To.second)) e)) c.head-in-To.ensures c.both-in-To.ensures.refused in
    rw c.in-To.is h
