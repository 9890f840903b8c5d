-- For the law of the known command lines: each computes.
use Rattle.std.proofs.Common.{refl}
use Rattle.clap.proofs.OnLiterals.{clap_on_literals}
use Rattle.vc_arguments.specs.Forms.{Choices}
use Rattle.vc_arguments.specs.KnownLines.{KnowsLines, KnowsLists, KnowsLocalTasks, KnowsRemoteTasks, KnowsTasks}

knows_tasks : (kinds parts modes : Choices) → KnowsTasks kinds parts modes
unfolding clap_on_literals
knows_tasks kinds parts modes = record {
  init = refl;
  hash_object = refl;
  hash_input = refl;
  cat_file = refl;
  show_ref = refl;
  merge_base = refl;
  rev_parse = refl;
  rev_list = refl;
  prune = refl;
  prune_dry = refl;
  world = refl;
  help = refl;
}

knows_local_tasks : (kinds parts modes : Choices) → KnowsLocalTasks kinds parts modes
unfolding clap_on_literals
knows_local_tasks kinds parts modes = record {
  add = refl;
  unstage = refl;
  write_tree = refl;
  commit = refl;
  branch = refl;
  branch_delete = refl;
  pack_refs = refl;
  checkout = refl;
  status = refl;
}

knows_remote_tasks : (kinds parts modes : Choices) → KnowsRemoteTasks kinds parts modes
unfolding clap_on_literals
knows_remote_tasks kinds parts modes = record { together = refl; workers = refl; fetch = refl; push = refl }

knows_lists : (kinds parts modes : Choices) → KnowsLists kinds parts modes
unfolding clap_on_literals
knows_lists kinds parts modes = record { terms = refl; parents = refl; items = refl; paths = refl; no_store = refl; no_work = refl; folders = refl }

pub knows_lines : (kinds parts modes : Choices) → KnowsLines kinds parts modes
knows_lines kinds parts modes = record {
  tasks = knows_tasks kinds parts modes;
  local_tasks = knows_local_tasks kinds parts modes;
  remote_tasks = knows_remote_tasks kinds parts modes;
  lists = knows_lists kinds parts modes;
}
