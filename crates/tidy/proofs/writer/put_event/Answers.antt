-- The full waits, the map, the fields. Assumes nothing.
use Rattle.std.proofs.Common.{arith}
use Rattle.tidy.proofs.Events.{later, gap_fits, map_there, room_waits, room_map, before_end, fields_there, room_fields, put}
use Rattle.tidy.proofs.writer.put_event.Goals as goal

pub overflow_sub-gap : goal.overflow_sub-gap
overflow_sub-gap c =
    later c.args.trace.now c.args.out.now c.args.p c.args.q (λ k. omega (arith, c.type_inv.trace k)) c.requires.0 c.requires.1 c.requires.2 c.requires.3

pub full_waits-requires : goal.full_waits-requires
full_waits-requires c =
    gap_fits c.args.trace.now c.args.out.now c.args.p c.args.q (λ k. omega (arith, c.type_inv.trace k)) c.requires.0 c.requires.1 c.requires.2 c.requires.3

pub put_full_waits-map-requires : goal.put_full_waits-map-requires
put_full_waits-map-requires c =
    room_waits c.args.trace.now c.args.out.now c.args.p c.args.q (λ k. omega (arith, c.type_inv.trace k)) c.requires.0 c.requires.1 c.requires.2 c.requires.3
    c.full_waits.result c.full_waits.ensures

pub bounds-trace-at : goal.bounds-trace-at
bounds-trace-at c =
    map_there c.args.trace.now c.args.out.now c.args.p c.args.q (λ k. omega (arith, c.type_inv.trace k)) c.requires.0 c.requires.1 c.requires.2 c.requires.3

pub own_wait-requires : goal.own_wait-requires
own_wait-requires c =
    gap_fits c.args.trace.now c.args.out.now c.args.p c.args.q (λ k. omega (arith, c.type_inv.trace k)) c.requires.0 c.requires.1 c.requires.2 c.requires.3

pub put_map-to-requires : goal.put_map-to-requires
put_map-to-requires c =
    room_map c.args.trace.now c.args.out.now c.args.p c.args.q (λ k. omega (arith, c.type_inv.trace k)) c.requires.0 c.requires.1 c.requires.2 c.requires.3
    c.full_waits.result c.full_waits.ensures
    c.put_full_waits-map.result c.put_full_waits-map.ensures.0 _ c.put_full_waits-map.ensures.1 c.own_wait.result c.own_wait.ensures

pub overflow_sub-fields : goal.overflow_sub-fields
overflow_sub-fields c =
    before_end c.args.trace.now c.args.out.now c.args.p c.args.q (λ k. omega (arith, c.type_inv.trace k)) c.requires.0 c.requires.1 c.requires.2 c.requires.3
    c.full_waits.result c.full_waits.ensures
    c.put_full_waits-map.result c.put_full_waits-map.ensures.0 _ c.put_full_waits-map.ensures.1 c.own_wait.result c.own_wait.ensures
    c.put_map-to.result c.put_map-to.ensures.0 _ c.put_map-to.ensures.1

pub overflow_sub-q : goal.overflow_sub-q
overflow_sub-q c =
    fields_there c.args.trace.now c.args.out.now c.args.p c.args.q (λ k. omega (arith, c.type_inv.trace k)) c.requires.0 c.requires.1 c.requires.2 c.requires.3
    c.full_waits.result c.full_waits.ensures
    c.put_full_waits-map.result c.put_full_waits-map.ensures.0 _ c.put_full_waits-map.ensures.1 c.own_wait.result c.own_wait.ensures
    c.put_map-to.result c.put_map-to.ensures.0 _ c.put_map-to.ensures.1

pub put_part-requires : goal.put_part-requires
put_part-requires c =
    room_fields c.args.trace.now c.args.out.now c.args.p c.args.q (λ k. omega (arith, c.type_inv.trace k)) c.requires.0 c.requires.1 c.requires.2 c.requires.3
    c.full_waits.result c.full_waits.ensures
    c.put_full_waits-map.result c.put_full_waits-map.ensures.0 _ c.put_full_waits-map.ensures.1 c.own_wait.result c.own_wait.ensures
    c.put_map-to.result c.put_map-to.ensures.0 _ c.put_map-to.ensures.1

pub returns : goal.returns
returns c =
    put c.args.trace.now c.args.out.now c.args.p c.args.q (λ k. omega (arith, c.type_inv.trace k)) c.requires.0 c.requires.1 c.requires.2 c.requires.3
    c.full_waits.result c.full_waits.ensures
    c.put_full_waits-map.result c.put_full_waits-map.ensures.0 _ c.put_full_waits-map.ensures.1 c.own_wait.result c.own_wait.ensures
    c.put_map-to.result c.put_map-to.ensures.0 _ c.put_map-to.ensures.1
    _ c.put_part.ensures
