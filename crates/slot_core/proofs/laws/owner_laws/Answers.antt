use Rattle.slot_core.proofs.Named.{sound-has_owners, sound-works_alone, sound-of_one_slot, sound-of_one_kind}
use Rattle.slot_core.proofs.laws.owner_laws.Goals as goal

pub returns-clause-owned : goal.returns-clause-owned
returns-clause-owned c = sound-has_owners

pub returns-clause-one_actor : goal.returns-clause-one_actor
returns-clause-one_actor c = sound-works_alone

pub returns-clause-one_slot : goal.returns-clause-one_slot
returns-clause-one_slot c = sound-of_one_slot

pub returns-clause-not_both : goal.returns-clause-not_both
returns-clause-not_both c = sound-of_one_kind
