-- An Update as it is kept in few bytes.
use Rattle.lock_core.specs.declared.update_links.PackedLink.{PackedLink}
use Rattle.lock_core.specs.declared.update_links.UpdateLink.{UpdateLink}

abbrev pub unpacked : PackedLink → UpdateLink
unpacked link = record {
  change = record { account = link.account; delta = link.delta; prev = link.prev };
  count = link.count;
  older = link.older;
}
