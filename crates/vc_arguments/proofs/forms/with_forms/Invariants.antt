use Rattle.std.proofs.Common.{◌≡◌, take}
use Rattle.std.specs.List.{fold}
use Rattle.clap.specs.Simple.{app_of}
use Rattle.clap.specs.declared.builder.command.Command.TheViews.{out-Command}
use Rattle.vc_arguments.proofs.FormLemmas.{add_viewed_form}
use Rattle.vc_arguments.proofs.forms.with_forms.Given as goal

abbrev pub invariant-loop-form : goal.invariant-loop-form
invariant-loop-form l = record {
  app : app_of l.made ≡ fold add_viewed_form (app_of l.fn.program) (take l.form-index l.forms);
  local : (out-Command l.made).has_globals ≡ (out-Command l.fn.program).has_globals;
}
