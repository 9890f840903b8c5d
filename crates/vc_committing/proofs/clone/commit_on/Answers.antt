use Rattle.std.proofs.Common.{rules, ap, sym, inr}
use Rattle.vc_files.proofs.WearLemmas.{writes_both, writes_told}
use Rattle.std.proofs.KnownBytes.{Keeps-refl}
use Rattle.std.proofs.lemmas.Result.{IfErr-weaker}
use Rattle.vc_cli.proofs.ToldLemmas.{OnOk-map, told_apart}
use Rattle.vc_committing.proofs.StepLemmas.{made_none, made_of, told_front}
use Rattle.vc_cli.specs.Failure.{IsFault}
use Rattle.vc_cli.specs.Printed.{AppendsFront, id_line}
use Rattle.vc_committing.specs.Steps.{IsOfCommitOn, MakesCommit}
use Rattle.vc_committing.specs.Steps.IsOfCommitOn.{of_making, untold}
use Rattle.vc_committing.proofs.clone.commit_on.Goals as goal

pub returns-in-Ok-commit : goal.returns-in-Ok-commit
returns-in-Ok-commit g c =
    let content = g.F.Files.content in
    let contents = g.O.Write.contents in
    let made : g.F.Files.honest → MakesCommit (content c.args.files) c.args.parents.now c.args.words.author.now c.args.words.committer.now c.args.words.message.now c.in-Ok-commit.id (content c.close.result) = λ honest.
    made_of c.args.parents.now c.args.words.author.now c.args.words.committer.now c.args.words.message.now c.commit.result c.in-Ok.node.is_up c.commit.new.self.is_up
    (content c.args.files) (content c.in-Ok.node.files) (content c.commit.new.self.files) (content c.close.result)
    (c.in-Ok.ensures.opened honest) c.in-Ok.ensures.fresh.up (c.commit.ensures.settles.up c.in-Ok.ensures.fresh.up) (ap content (sym c.close.ensures)) c.in-Ok-commit.id c.in-Ok-commit.is
    (c.commit.ensures.answers honest).held (c.commit.ensures.answers honest).any (c.in-Ok-commit.ensures.committed honest) (c.commit.ensures.clean honest) in
    record {
      committed = λ honest. OnOk-map c.print_id.result (λ line. record { id = c.in-Ok-commit.id; made = made honest; text = line }) c.print_id.ensures.line;
      refused = λ honest. IfErr-weaker c.print_id.result (λ e. IsFault e × AppendsFront (contents c.args.output.now) (contents c.print_id.new.output) (id_line c.in-Ok-commit.id))
          (IsOfCommitOn (content c.args.files) c.args.parents.now c.args.words.author.now c.args.words.committer.now c.args.words.message.now (content c.close.result) (contents c.args.output.now) (contents c.print_id.new.output))
          (λ e told. untold c.in-Ok-commit.id told.0 (made honest) told.1) (told_front c.print_id.result IsFault (AppendsFront (contents c.args.output.now) (contents c.print_id.new.output) (id_line c.in-Ok-commit.id)) c.print_id.ensures.fault c.print_id.ensures.front);
      wear = rw c.close.ensures (writes_both c.in-Ok.ensures.wear (λ none. none) (writes_told c.commit.ensures.wear (search rules) (λ told. absurd (told_apart c.print_id.result c.print_id.ensures.fault told))));
    }

pub returns-in-Err-commit-clause-refused : goal.returns-in-Err-commit-clause-refused
returns-in-Err-commit-clause-refused g c = λ honest.
    let content = g.F.Files.content in
    of_making (inr (made_none c.args.parents.now c.args.words.author.now c.args.words.committer.now c.args.words.message.now c.commit.result c.in-Ok.node.is_up c.commit.new.self.is_up
    (content c.args.files) (content c.in-Ok.node.files) (content c.commit.new.self.files) (content c.close-in-Err-commit.result)
    (c.in-Ok.ensures.opened honest) c.in-Ok.ensures.fresh.up (c.commit.ensures.settles.up c.in-Ok.ensures.fresh.up) (ap content (sym c.close-in-Err-commit.ensures)) c.in-Err-commit.refusal c.in-Err-commit.is
    (c.commit.ensures.answers honest).held (c.commit.ensures.answers honest).any (c.commit.ensures.left honest) (c.commit.ensures.file honest) (c.commit.ensures.clean honest)))
    (Keeps-refl (g.O.Write.contents c.args.output.now))

pub returns-in-Err-commit-clause-wear : goal.returns-in-Err-commit-clause-wear
returns-in-Err-commit-clause-wear g c = rw c.close-in-Err-commit.ensures (writes_both c.in-Ok.ensures.wear (λ none. none) (writes_told c.commit.ensures.wear (search rules) (search rules)))
