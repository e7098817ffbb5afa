-- What the fields of a plain link hold.
use Rattle.std.specs.Prelude.{◌≡◌, length, drop}
use Rattle.circular_buffer.specs.Buffer.{buffer}
use Rattle.base_words.specs.declared.order.Order.{Order}
use Rattle.base_words.specs.declared.order.Outcome.{Outcome}
use Rattle.link_ends.specs.declared.plain.PlainLink.TheInside.{Inside}
use Rattle.link_ends.specs.declared.plain.Whole.{Whole}
use Rattle.link_ends.specs.Whole.{IsLink}

module _ {J T L : Type 0} where
  -- the link that it is
  abbrev pub whole_of : Inside J T L → Whole J T
  whole_of fields = record {
    from = fields.from;
    to = fields.to;
    base = fields.base;
    capacity = fields.capacity;
    sent = fields.sent.items;
    taken = fields.taken;
    given = fields.given.items;
    got = fields.got;
    credited = fields.credited;
    shut = fields.shut;
  }

  -- it keeps the law of a link; one buffer holds what was sent and not taken, the other what was given and not got
  pub record IsPlain (fits : Order J → Outcome J T → Type 0) (ready : Order J → Type 0) (fields : Inside J T L) : Type 0 where
    pub link : IsLink fits ready (whole_of fields)
    pub count_is : fields.count ≡ length fields.sent.items
    pub orders_are : fields.orders ≡ buffer (drop fields.taken fields.sent.items) fields.capacity
    pub outcomes_are : fields.outcomes ≡ buffer (drop fields.got fields.given.items) fields.capacity
