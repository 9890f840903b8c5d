-- For `add` to files that are opened first.
use Rattle.std.proofs.Common.{◌≡◌, ℕ, Bool, true, List, subst}
use Rattle.vc_cli.specs.declared.failure.Failure.{Failure}
use Rattle.vc_committing.specs.Adding.{AddsFiles, AddsTo, RefusesAdd, RefusesAddTo}
use Rattle.vc_files.specs.FileMap.{FileMap}
use Rattle.vc_local.specs.Emptying.{IsOpened}
use Rattle.vc_object.specs.declared.mode.Mode.{Mode}

-- what is staged at a node that was up is staged in its files
pub adds_to : (work : FileMap) (own : List ℕ) (mode : Mode) (words : List (List ℕ)) (was is : Bool) (old between new closed : FileMap)
    → IsOpened old between → was ≡ true → new ≡ closed → AddsFiles work own mode words was is between new → AddsTo work own mode words old closed
adds_to work own mode words was is old between new closed opened up end added = record {
  between = between;
  opened = opened;
  is_up = is;
  added = subst (λ (m : FileMap). AddsFiles work own mode words true is between m) end (subst (λ (b : Bool). AddsFiles work own mode words b is between new) up added);
}

-- and what it refuses
pub refuses_add_to : (work : FileMap) (own : List ℕ) (mode : Mode) (words : List (List ℕ)) (was is : Bool) (old between new closed : FileMap) (e : Failure)
    → IsOpened old between → was ≡ true → new ≡ closed → RefusesAdd work own mode words was is between new e → RefusesAddTo work own mode words old closed e
refuses_add_to work own mode words was is old between new closed e opened up end refused = record {
  between = between;
  opened = opened;
  is_up = is;
  refused = subst (λ (m : FileMap). RefusesAdd work own mode words true is between m e) end (subst (λ (b : Bool). RefusesAdd work own mode words b is between new e) up refused);
}
