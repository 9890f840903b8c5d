use Rattle.std.proofs.Common.{◌≡◌, false, take}
use Rattle.std.specs.List.{fold}
use Rattle.clap.specs.Simple.{app_of, new_app}
use Rattle.clap.specs.declared.builder.command.Command.TheViews.{out-Command}
use Rattle.vc_arguments.proofs.FormLemmas.{add_viewed}
use Rattle.vc_arguments.proofs.forms.command_of.Given as goal

abbrev pub invariant-loop-argument : goal.invariant-loop-argument
invariant-loop-argument l = record {
  app : app_of l.command ≡ fold add_viewed (new_app l.form.name.now) (take l.argument-index l.form.arguments.now);
  local : (out-Command l.command).has_globals ≡ false;
}
