use Rattle.std.proofs.Common.{rules, ◌≡◌, List, Err, map, sym, ap, ◌∙◌, subst}
use Rattle.vc_push.specs.PushView.{commands_of}
use Rattle.vc_refs.specs.Refs.{refs}
use Rattle.vc_refs.specs.SetAll.{with_changes, AreNamedInRefs, BlamesSetAll, KeepsAllBut}
use Rattle.vc_refs.specs.declared.changes.RefChange.{RefChange}
use Rattle.vc_session.proofs.TogetherLemmas.{keeps_unnamed, named_in_refs, set_refused, with_new_is}
use Rattle.vc_session.specs.SessionFault.{from_set}
use Rattle.vc_session.specs.Together.{change_of}
use Rattle.vc_session.proofs.updating_all.set_passed.Goals as goal

pub set_all-requires : goal.set_all-requires
set_all-requires g c =
    let made : c.deref.result.now ≡ map change_of (commands_of c.args.commands.now) = c.deref.ensures.value ∙ c.in_ok-changes.ensures in
    subst AreNamedInRefs (sym made) (named_in_refs (commands_of c.args.commands.now) c.requires)

pub returns-in_err-set_all-clause-refused : goal.returns-in_err-set_all-clause-refused
returns-in_err-set_all-clause-refused g c = λ honest good pass.
    let content = g.F.Files.content c.args.files.now in
    let e = c.in_err-set_all.field-0.0 in
    let made : c.deref.result.now ≡ map change_of (commands_of c.args.commands.now) = c.deref.ensures.value ∙ c.in_ok-changes.ensures in
    let is : c.from_residual-in_err-set_all.result ≡ Err (from_set e) = search rules in
    let blames = subst (λ (cs : List RefChange). BlamesSetAll content cs e) made (c.in_err-set_all.ensures.refused honest) in
    rw is (set_refused content (commands_of c.args.commands.now) good c.requires pass e blames)

pub returns-in_err-set_all-clause-rest : goal.returns-in_err-set_all-clause-rest
returns-in_err-set_all-clause-rest g c = λ honest.
    let content = g.F.Files.content in
    let made : c.deref.result.now ≡ map change_of (commands_of c.args.commands.now) = c.deref.ensures.value ∙ c.in_ok-changes.ensures in
    keeps_unnamed (commands_of c.args.commands.now) (content c.args.files.now) (content c.set_all.new.files)
    (subst (λ (cs : List RefChange). KeepsAllBut cs (content c.args.files.now) (content c.set_all.new.files)) made (c.in_err-set_all.ensures.sets.rest honest))

pub returns-clause-rest : goal.returns-clause-rest
returns-clause-rest g c = λ honest.
    let content = g.F.Files.content in
    let made : c.deref.result.now ≡ map change_of (commands_of c.args.commands.now) = c.deref.ensures.value ∙ c.in_ok-changes.ensures in
    keeps_unnamed (commands_of c.args.commands.now) (content c.args.files.now) (content c.set_all.new.files)
    (subst (λ (cs : List RefChange). KeepsAllBut cs (content c.args.files.now) (content c.set_all.new.files)) made (c.in_ok-set_all.ensures.sets.rest honest))

pub returns-clause-set : goal.returns-clause-set
returns-clause-set g c = λ honest.
    let content = g.F.Files.content c.args.files.now in
    let made : c.deref.result.now ≡ map change_of (commands_of c.args.commands.now) = c.deref.ensures.value ∙ c.in_ok-changes.ensures in
    c.in_ok-set_all.ensures.sets.set honest ∙ ap (λ (cs : List RefChange). with_changes (refs content) cs) made ∙ with_new_is (refs content) (commands_of c.args.commands.now)
