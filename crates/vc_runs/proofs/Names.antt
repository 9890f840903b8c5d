-- The names of three objects, computed.
use Rattle.std.proofs.Common.{refl}
use Rattle.std.specs.Fmt.{digits}
use Rattle.hex.specs.Hex.{encode_with}
use Rattle.vc_runs.specs.Names.{NamesAreKnown}
use Rattle.sha1.specs.Sha1.{first_words, schedule, rounds, compress, hash_after, digest_bytes, sha1}

pub names_are_known : NamesAreKnown
unfolding digits encode_with first_words schedule rounds compress hash_after digest_bytes sha1
names_are_known = (refl, refl, refl)
