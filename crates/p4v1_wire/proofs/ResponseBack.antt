-- Responses are read back.
use Rattle.std.proofs.Common.{refl}
use Rattle.wire_messages.proofs.CanWrite.{rows_can_be_written}
use Rattle.wire_messages.proofs.ReadBack.{uint64_back, bytes_back, text_back, carried_back}
use Rattle.p4v1_read.specs.Entities.{entity_of}
use Rattle.p4v1_read.specs.Requests.{cookie_of, config_of}
use Rattle.p4v1_wire.specs.EntityRows.{entity_rows, EntityInRange}
use Rattle.p4v1_wire.specs.ResponseRows.{read_response_rows, ReadResponseInRange, cookie_rows, CookieInRange, config_rows, ConfigInRange, get_response_rows, GetResponseInRange, capabilities_response_rows, CapabilitiesResponseInRange}
use Rattle.p4v1_wire.specs.ServerMessages.{read_response_of, get_response_of, capabilities_response_of}
use Rattle.p4v1_wire.specs.ReadBack.{IsReadBack, itself}
use Rattle.p4v1_wire.specs.Counted.{entity_counted, read_response_counted, config_counted, get_response_counted}
use Rattle.p4v1_wire.proofs.EntityBack.{entity_back}
use Rattle.p4v1_wire.proofs.NestedBack.{read_from, optional_back, given_back, all_back}

pub read_response_back : IsReadBack read_response_of read_response_rows ReadResponseInRange read_response_counted
unfolding read_response_of read_response_rows ReadResponseInRange
read_response_back m fits short =
    let rows = read_response_rows m in
    let whole = rows_can_be_written rows refl fits.0 short in
    read_from read_response_of rows (read_response_counted m) refl fits.0 short
    (all_back entity_of 1 rows entity_rows EntityInRange entity_counted m.entities refl refl whole fits.1 entity_back)

cookie_back : IsReadBack cookie_of cookie_rows CookieInRange itself
unfolding cookie_of cookie_rows CookieInRange
cookie_back m fits short =
    let rows = cookie_rows m in
    read_from cookie_of rows m refl fits short (rw (uint64_back 1 rows m.cookie refl refl) refl)

pub config_back : IsReadBack config_of config_rows ConfigInRange config_counted
unfolding config_of config_rows ConfigInRange
config_back m fits short =
    let rows = config_rows m in
    let whole = rows_can_be_written rows refl fits.0 short in
    read_from config_of rows (config_counted m) refl fits.0 short
    (rw (
      carried_back 1 rows m.p4info refl refl,
      bytes_back 2 rows m.p4_device_config refl refl,
      optional_back cookie_of 3 rows cookie_rows CookieInRange itself m.cookie refl refl whole fits.1 cookie_back,
    ) refl)

pub get_response_back : IsReadBack get_response_of get_response_rows GetResponseInRange get_response_counted
unfolding get_response_of get_response_rows GetResponseInRange
get_response_back m fits short =
    let rows = get_response_rows m in
    let whole = rows_can_be_written rows refl fits.0 short in
    read_from get_response_of rows (get_response_counted m) refl fits.0 short
    (rw (given_back config_of 1 rows config_rows ConfigInRange config_counted m.config refl refl whole fits.1 config_back) refl)

pub capabilities_response_back : IsReadBack capabilities_response_of capabilities_response_rows CapabilitiesResponseInRange itself
unfolding capabilities_response_of capabilities_response_rows CapabilitiesResponseInRange
capabilities_response_back m fits short =
    let rows = capabilities_response_rows m in
    read_from capabilities_response_of rows m refl fits short (rw (text_back 1 rows m.p4runtime_api_version refl refl fits.0) refl)
