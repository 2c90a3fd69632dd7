pub mod BaseLaws
pub mod ContentLaws
pub mod ContentTried
pub mod ValueLaws
pub mod ValueTried
pub mod ElaboratedLaws
