-- Bytes that are read or refused, as the machine asks of what it takes from the layer of messages.
use Rattle.vc_message.proofs.Readings.{never_both, one_reading, one_refusal, read_named, refusal_number}
use Rattle.vc_model.specs.Wire.{Wire}
use Rattle.vc_rules.specs.Git.{git}
use Rattle.vc_wire.proofs.FormedLemmas.{read_formed}
use Rattle.vc_wire.specs.Laws.{MessageLaws, wire_of}

pub message_laws : MessageLaws
message_laws = record {
  named = read_named;
  formed = read_formed;
  numbers = refusal_number;
  one_message = one_reading;
  one_refusal = one_refusal;
  apart = never_both;
}

-- The machine's wire, at Git's format. It is defined here and not in specs/, which may not name a proof of its own crate.
abbrev pub message_wire : Wire git
message_wire = wire_of message_laws
