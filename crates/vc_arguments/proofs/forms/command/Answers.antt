use Rattle.std.proofs.Common.{◌≡◌, ◌∙◌, ap, rules, false}
use Rattle.std.specs.List.{fold}
use Rattle.std.proofs.lemmas.Result.{IfOk-weaker}
use Rattle.clap.specs.Simple.{app_of}
use Rattle.clap.specs.declared.builder.command.Command.TheViews.{out-Command}
use Rattle.vc_arguments.specs.Forms.{branch_forms, index_forms, object_forms, remote_forms, revision_forms}
use Rattle.vc_arguments.specs.Program.{add_form, bare_program}
use Rattle.vc_arguments.proofs.FormLemmas.{in_parts}
use Rattle.vc_arguments.proofs.ProgramLemmas.{simple_program}
use Rattle.vc_arguments.proofs.forms.command.Goals as goal

pub returns-clause-program : goal.returns-clause-program
returns-clause-program c =
    let objects = c.object_forms.ensures in
    let index = c.index_forms.ensures in
    let bare : app_of c.arg_required_else_help-program.result ≡ bare_program = search rules in
    let first : app_of c.in_ok-program.program ≡ fold add_form bare_program (object_forms objects.0 objects.1) =
    c.in_ok-program.ensures.app ∙ (ap (fold add_form (app_of c.arg_required_else_help-program.result)) objects.4
    ∙ ap (λ a. fold add_form a (object_forms objects.0 objects.1)) bare) in
    let second = c.in_ok-program-2.ensures.app ∙ ap (fold add_form (app_of c.in_ok-program.program)) c.revision_forms.ensures in
    let third = c.in_ok-program-3.ensures.app ∙ ap (fold add_form (app_of c.in_ok-program-2.program)) index.2 in
    let fourth = c.in_ok-program-4.ensures.app ∙ ap (fold add_form (app_of c.in_ok-program-3.program)) c.branch_forms.ensures in
    IfOk-weaker c.with_forms-5.result _ _ (λ program is. record {
      kinds = objects.0;
      parts = objects.1;
      modes = index.0;
      of_kinds = objects.2;
      of_parts = objects.3;
      of_modes = index.1;
      made = in_parts bare_program (app_of c.in_ok-program.program) (app_of c.in_ok-program-2.program) (app_of c.in_ok-program-3.program)
          (app_of c.in_ok-program-4.program) (app_of program) (object_forms objects.0 objects.1) revision_forms (index_forms index.0) branch_forms remote_forms
          first second third fourth (is ∙ ap (fold add_form (app_of c.in_ok-program-4.program)) c.remote_forms.ensures);
    }) c.with_forms-5.ensures.app

pub returns-clause-simple : goal.returns-clause-simple
returns-clause-simple c = IfOk-weaker c.with_forms-5.result _ _ (λ program is. simple_program (app_of program) is) (returns-clause-program c)

pub returns-clause-local : goal.returns-clause-local
returns-clause-local c =
    let bare : (out-Command c.arg_required_else_help-program.result).has_globals ≡ false = search rules in
    let before = c.in_ok-program-4.ensures.local ∙ (c.in_ok-program-3.ensures.local ∙ (c.in_ok-program-2.ensures.local ∙ (c.in_ok-program.ensures.local ∙ bare))) in
    IfOk-weaker c.with_forms-5.result _ _ (λ program is. is ∙ before) c.with_forms-5.ensures.local
