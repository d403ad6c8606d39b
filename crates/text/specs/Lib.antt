pub mod Texts
pub mod Investors
pub mod Known
pub mod AllLaws
pub mod TextLaws
pub mod InvestorLaws
