use Rattle.std.proofs.Common.{◌≡◌, take, true}
use Rattle.std.specs.Prelude.{string_bytes}
use Rattle.std.specs.Char.{is_ascii_hexdigit}
use Rattle.std.specs.List.{list_all}
use Rattle.std.specs.Str.{str_to_ascii_lowercase}
use Rattle.vc_store.proofs.paths.lower_case.Given as goal

-- the digits so far are hex digits, and their text is in lower case
abbrev pub invariant-loop-digit : goal.invariant-loop-digit
invariant-loop-digit l = record {
  hex : list_all is_ascii_hexdigit (take l.digit-index l.digits) ≡ true;
  lower : string_bytes l.text ≡ str_to_ascii_lowercase (take l.digit-index l.digits);
}
