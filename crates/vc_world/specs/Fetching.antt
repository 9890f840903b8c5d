-- What a clone does with a message in a round of a fetch.
use Rattle.std.specs.Prelude.{Result, Ok, Err}
use Rattle.vc_node.specs.declared.clone_fault.CloneFault.{CloneFault}
use Rattle.vc_node.specs.declared.exchanging.Received.{Received}
use Rattle.vc_node.specs.declared.exchanging.Received.TheVariants.{Moved, Reported, Send}
use Rattle.vc_world.specs.declared.ending.ExchangeEnd.{ExchangeEnd}
use Rattle.vc_world.specs.declared.ending.ExchangeEnd.TheVariants.{Clone, Stray}
use Rattle.vc_world.specs.declared.fetching.Fetched.{Fetched}
use Rattle.vc_world.specs.declared.fetching.Next.{Next}
use Rattle.vc_world.specs.declared.fetching.Next.TheVariants.{Ask, End}

-- the last message of a round moves refs
abbrev pub settled : {R : Type 0} → Result Received CloneFault → Result Fetched (ExchangeEnd R)
settled (Ok (Moved moved left)) = Ok (record { moved = moved; left = left })
settled (Ok (Send bytes)) = Err Stray
settled (Ok (Reported moved refused)) = Err Stray
settled (Err fault) = Err (Clone fault)

-- one before it may send a want
abbrev pub next_of : {R : Type 0} → Result Received CloneFault → Next R
next_of (Ok (Send bytes)) = Ask bytes
next_of (Ok (Moved moved left)) = End (Ok (record { moved = moved; left = left }))
next_of (Ok (Reported moved refused)) = End (Err Stray)
next_of (Err fault) = End (Err (Clone fault))
